use Rattle.std.proofs.Common.{◌≡◌, ◌≤◌, subst, arith}
use Rattle.mx_turns.specs.declared.pace.Pace.{Pace}
use Rattle.mx_turns.specs.Running.{IsPace, Leaves}
use Rattle.mx_turns.proofs.Paces.{paces_rest}
use Rattle.mx_turns.proofs.pace.later.Goals as goal

pub returns-in-Some : goal.returns-in-Some
returns-in-Some c =
    let few : c.args.turns ≤ 1 = subst (λ (p : Pace). Leaves p c.args.turns) c.in-Bytes.is c.requires.leaves in
    let one : c.args.turns ≡ 1 = omega (arith, few, c.requires.some) in
    λ s core i. paces_rest s core c.in-Bytes.bytes c.in-Some.rest c.in-Some.field-0-0.now c.args.turns one c.in-Some.ensures.cases.0
    (subst (λ (p : Pace). IsPace s core p) c.in-Bytes.is i)
