use Rattle.std.proofs.Common.{ℕ, ◌+◌, ◌<◌, ◌≤◌, length}
use Rattle.mx_heap.specs.Places.{part_at}
use Rattle.mx_heap.proofs.parts.parts_to.Given as goal

abbrev pub invariant-loop-width : goal.invariant-loop-width
invariant-loop-width l = record {
  within : l.low + l.width ≤ length l.parts;
  before : (k : ℕ) → k < l.low → (part_at l.parts k).first ≤ l.word;
  behind : (k : ℕ) → l.low + l.width ≤ k → k < length l.parts → l.word < (part_at l.parts k).first;
}

abbrev pub decreases-loop-width : goal.decreases-loop-width
decreases-loop-width l = l.width
