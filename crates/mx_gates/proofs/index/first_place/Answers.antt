use Rattle.std.proofs.Common.{◌≡◌, length, sym, ◌∙◌, arith}
use Rattle.std.proofs.lemmas.List.Sums.{position_or_len_is}
use Rattle.mx_model.specs.Gates.{is_at}
use Rattle.mx_gates.specs.Index.{no_gate}
use Rattle.mx_gates.proofs.index.first_place.Goals as goal

pub returns-then-is_at : goal.returns-then-is_at
returns-then-is_at c = sym (position_or_len_is (is_at c.args.domain c.args.word) c.args.gates.now c.loop-i.i no_gate
    (omega (arith, c.loop-i-test.true)) c.loop-i.invariant (λ _. sym c.is_at.ensures ∙ c.if-is_at.true))

pub returns : goal.returns
returns c =
    let all : c.loop-i.i ≡ length c.args.gates.now = omega (arith, c.loop-i-test.false, c.loop-i.auto.i-end) in
    sym (position_or_len_is (is_at c.args.domain c.args.word) c.args.gates.now (length c.args.gates.now) no_gate (omega arith) (λ k lt.
    c.loop-i.invariant k (omega arith)) (λ lt. absurd (omega arith)))
