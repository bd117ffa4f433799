use Rattle.std.proofs.Common.{◌∙◌, sym, ap, bytes_eq, true, false, arith}
use Rattle.std.proofs.lemmas.Grind.{common_steps}
use Rattle.mx_io.proofs.Lookup.{find-named}
use Rattle.mx_io.proofs.named.find.Goals as goal

pub returns-then-eq : goal.returns-then-eq
returns-then-eq g c =
    sym (c.loop-entry.invariant ∙ find-named c.args.name.now _ _ c.in-Some.entry.now true c.in-Some.ensures.steps (c.if-eq.ensures
    ∙ ap (λ s. bytes_eq s c.args.name.now) c.as_str.ensures.value))

pub loop-entry-preserved : goal.loop-entry-preserved
loop-entry-preserved g c =
    c.loop-entry.invariant ∙ find-named c.args.name.now _ _ c.in-Some.entry.now false c.in-Some.ensures.steps (c.if-eq.ensures
    ∙ ap (λ s. bytes_eq s c.args.name.now) c.as_str.ensures.value)

pub returns : goal.returns
returns g c = grind (arith, common_steps)
