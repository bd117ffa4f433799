use Rattle.std.proofs.Common.{ap, sym, not, ◌∙◌, arith}
use Rattle.std.specs.Prelude.{is_some}
use Rattle.mx_machine.proofs.CaseLaws.{none-told}
use Rattle.mx_machine.proofs.turns.clear.Goals as goal

pub returns-then-is_none : goal.returns-then-is_none
returns-then-is_none c =
    none-told c.args.out.now (omega (arith, c.len.ensures.count, c.if-len-eq0.true)) (sym (ap is_some c.note.ensures) ∙ c.is_none.ensures
    ∙ ap not c.if-is_none.true)
