use Rattle.std.proofs.Common.{sym, ◌∙◌, arith}
use Rattle.mx_tail.proofs.PassLaws.{passes_same, passes_nothing}
use Rattle.mx_report.proofs.ItemLaws.{shown_none}
use Rattle.mx_report.proofs.tables.put_item.Goals as goal

pub returns-else-has_rights : goal.returns-else-has_rights
returns-else-has_rights g c =
    passes_same (shown_none _ _ c.args.item.now (sym c.has_rights.ensures ∙ c.if-has_rights.false)) (passes_nothing _ _)

pub machine_is_valid-requires : goal.machine_is_valid-requires
machine_is_valid-requires g c = search

pub has_rights-requires : goal.has_rights-requires
has_rights-requires g c = search

pub put_shown-requires : goal.put_shown-requires
put_shown-requires g c =
    let few = c.machine_is_valid.ensures.valid.few_words in
    omega (arith, c.requires.inside)

pub returns-then-has_rights : goal.returns-then-has_rights
returns-then-has_rights g c = rw (sym c.has_rights.ensures ∙ c.if-has_rights.true) c.put_shown.ensures
