use Rattle.std.proofs.Common.{◌≡◌, ◌<◌, length, sym, ◌∙◌, arith}
use Rattle.mx_gates.specs.Index.{no_gate, place_of}
use Rattle.mx_gates.proofs.Order.{place-there, place-absent}
use Rattle.mx_gates.proofs.index.sorted_place.Goals as goal
use Rattle.mx_gates.proofs.index.sorted_place.Goals.{else-i-sorted-via-then-i-sorted+else-is_at, else-i-sorted-via-else-i-sorted}

pub returns-then-is_at : goal.returns-then-is_at
returns-then-is_at c =
    let within : c.place-i.result < length c.args.sorted.now = omega (arith, c.if-i-sorted.true) in
    rw c.place-i.ensures.place (place-there c.args.domain c.args.word c.args.sorted.now c.requires.rising no_gate
    (rw (sym c.place-i.ensures.place) within) (rw (sym c.place-i.ensures.place) (sym c.is_at.ensures ∙ c.if-is_at.true)))

pub returns-else-i-sorted : goal.returns-else-i-sorted
returns-else-i-sorted c =
    let p : c.place-i.result ≡ place_of c.args.domain c.args.word c.args.sorted.now = c.place-i.ensures.place in
    place-absent c.args.domain c.args.word c.args.sorted.now c.requires.rising no_gate (elim c.else-i-sorted.branch [
      | else-i-sorted-via-then-i-sorted+else-is_at w ↦ λ _. rw (sym p) (sym w.is_at.ensures ∙ w.if-is_at.false)
      | else-i-sorted-via-else-i-sorted w ↦ λ lt. absurd (omega (arith, lt, p, w.if-i-sorted.false))
    ])
