use Rattle.std.proofs.Common.{◌≡◌, ◌+◌, Ok, Err, arith}
use Rattle.std.specs.Prelude.{OnOk, OnErr}
use Rattle.std.specs.List.{AllByRecursion}
use Rattle.mx_model.specs.declared.values.Gate.{Gate}
use Rattle.mx_model.specs.Gates.{with_gate}
use Rattle.mx_model.specs.Valid.{IsGate}
use Rattle.mx_model.proofs.ListLaws.{all-append, all-filter}
use Rattle.mx_call_tests.proofs.played.gates_from.Goals as goal

pub loop-i-preserved : goal.loop-i-preserved
loop-i-preserved c =
    let P : Gate → Type 0 = IsGate 2 16384 in
    let old = c.loop-i.gates in
    let new = c.add.new.self in
    let gate : Gate = record { domain = 2; word = c.args.first + c.loop-i.i; target = 1 } in
    let is : P gate = record {
      domain = record { first = omega arith; last = omega arith };
      target = record { first = omega arith; last = omega arith };
      word = omega arith;
    } in
    let cases = elim c.add.result as (λ r. OnOk r (new ≡ with_gate gate old) → OnErr r (new ≡ old) → AllByRecursion P new) [
      | Ok x ↦ λ a b. rw a (all-append P _ gate (all-filter P _ old c.loop-i.invariant) is)
      | Err x ↦ λ a b. rw b c.loop-i.invariant
    ] in
    cases c.add.ensures.ok c.add.ensures.err
