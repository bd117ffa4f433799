use Rattle.mx_gates.proofs.Order.{Halves}
use Rattle.mx_gates.proofs.index.place.Given as goal

abbrev pub invariant-loop-width : goal.invariant-loop-width
invariant-loop-width l = Halves l.domain l.word l.sorted l.low l.width

abbrev pub decreases-loop-width : goal.decreases-loop-width
decreases-loop-width l = l.width
