use Rattle.std.proofs.Common.{◌≡◌, ◌∙◌, ◌++◌, ap, sym, List}
use Rattle.mx_manifest.specs.Faults.{unlisted_fault}
use Rattle.mx_manifest.specs.Rows.{early_rows, late_rows}
use Rattle.mx_manifest.specs.Section.{section_view}
use Rattle.mx_manifest.specs.declared.row.Row.{Row}
use Rattle.mx_manifest.specs.declared.row.Version.{Version}
use Rattle.mx_manifest.specs.declared.row.Version.TheVariants.{One, Two}
use Rattle.mx_manifest.specs.declared.section.Section.{Section}
use Rattle.mx_manifest.specs.declared.tables.KeyFault.{KeyFault}
use Rattle.mx_manifest.proofs.tables.unlisted_module_fault.Goals as goal
use Rattle.std.proofs.Common.{Option}

unlisted_by : (section : Section) (early late : List Row) (version at : Version) (fault : Option KeyFault)
    → fault ≡ unlisted_fault (early ++ late) (section_view section)
    → early ≡ early_rows version → late ≡ late_rows at → version ≡ at
    → fault ≡ unlisted_fault (early_rows version ++ late_rows version) (section_view section)
unlisted_by section early late version at fault is first rest same =
    is ∙ ap (λ rows. unlisted_fault (rows ++ late) (section_view section)) first
    ∙ ap (λ rows. unlisted_fault (early_rows version ++ rows) (section_view section)) rest
    ∙ ap (λ v. unlisted_fault (early_rows version ++ late_rows v) (section_view section)) (sym same)

pub returns-in-One : goal.returns-in-One
returns-in-One c = unlisted_by c.args.section _ _ c.args.version One _ c.unlisted_fault.ensures c.early_rows-early.ensures
    c.late_rows_one.ensures c.in-One.is

pub returns-in-Two : goal.returns-in-Two
returns-in-Two c = unlisted_by c.args.section _ _ c.args.version Two _ c.unlisted_fault-in-Two.ensures c.early_rows-early.ensures
    c.late_rows_two.ensures c.in-Two.is
