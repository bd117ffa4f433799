use Rattle.std.proofs.Common.{◌≡◌, ℕ, ◌<◌, false, get_or}
use Rattle.mx_model.specs.Gates.{is_at}
use Rattle.mx_gates.specs.Index.{no_gate}
use Rattle.mx_gates.proofs.index.first_place.Given as goal

abbrev pub invariant-loop-i : goal.invariant-loop-i
invariant-loop-i l = (k : ℕ) → k < l.i → is_at l.domain l.word (get_or l.gates k no_gate) ≡ false
