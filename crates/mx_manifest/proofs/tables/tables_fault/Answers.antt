use Rattle.std.proofs.Common.{◌≡◌, ◌∙◌, None, sym}
use Rattle.mx_manifest.specs.Faults.{table_fault}
use Rattle.mx_manifest.specs.Rows.{top_rows}
use Rattle.mx_manifest.specs.Section.{section_view}
use Rattle.mx_words.proofs.OptionLaws.{unmapped}
use Rattle.mx_manifest.proofs.Clear.{few_modules, few_harts}
use Rattle.mx_manifest.proofs.Judging.{at_most}
use Rattle.mx_manifest.proofs.tables.tables_fault.Goals as goal

pub modules_fault-requires : goal.modules_fault-requires
modules_fault-requires c =
    let clear : table_fault (top_rows c.args.version) (section_view c.args.top) ≡ None =
    sym c.top_fault-fault.ensures ∙ unmapped _ _ (sym c.placed.ensures ∙ c.in_default.is) in
    at_most _ _ 63 c.elements_at-modules.ensures (few_modules c.args.version (section_view c.args.top) clear).1

pub harts_fault-requires : goal.harts_fault-requires
harts_fault-requires c =
    let clear : table_fault (top_rows c.args.version) (section_view c.args.top) ≡ None =
    sym c.top_fault-fault.ensures ∙ unmapped _ _ (sym c.placed.ensures ∙ c.in_default.is) in
    at_most _ _ 4 c.elements_at-harts.ensures (few_harts c.args.version (section_view c.args.top) clear).1
