use Rattle.std.proofs.Common.{◌≡◌, ap, sym, subst, ◌∙◌, arith, zero-add}
use Rattle.mx_any.specs.Machines.{meaning}
use Rattle.mx_model.specs.State.{Flat, State, flat}
use Rattle.mx_boot.proofs.Booted.{booted}
use Rattle.mx_debug.specs.Looks.{IsAt}
use Rattle.mx_debug.proofs.again.machine_at.Goals as goal

pub run_on_by-requires-clause-few : goal.run_on_by-requires-clause-few
run_on_by-requires-clause-few c =
    let b = c.in-Ok.ensures in
    let none : (meaning c.in-Ok.machine).core.turns ≡ 0 = ap (λ (f : Flat). f.core.turns) b.2
    ∙ ap (λ (s : State). s.core.turns) (sym (booted c.args.origin.now.plan.now c.args.origin.now.images.now c.args.origin.now.inputs.now
    b.0 b.1).1) in
    omega (arith, none, c.requires.few)

pub returns-in-Ok-clause-few : goal.returns-in-Ok-clause-few
returns-in-Ok-clause-few c =
    let b = c.in-Ok.ensures in
    let none : (meaning c.in-Ok.machine).core.turns ≡ 0 = ap (λ (f : Flat). f.core.turns) b.2
    ∙ ap (λ (s : State). s.core.turns) (sym (booted c.args.origin.now.plan.now c.args.origin.now.images.now c.args.origin.now.inputs.now
    b.0 b.1).1) in
    let count = c.run_on_by.ensures.count in
    omega (arith, none, count)

pub returns-in-Ok-clause-at : goal.returns-in-Ok-clause-at
returns-in-Ok-clause-at c = λ q e is.
    let b = c.in-Ok.ensures in
    let same : b.0 ≡ q.start = (let one = b.1 in cc (one, e)) in
    let at : IsAt q 0 (meaning c.in-Ok.machine) = b.2 ∙ ap flat same in
    subst (λ k. IsAt q k (meaning c.run_on_by.new.machine)) (zero-add c.args.turns) (c.run_on_by.ensures.at q 0 is at)
