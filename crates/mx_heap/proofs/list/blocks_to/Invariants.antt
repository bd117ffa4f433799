use Rattle.std.proofs.Common.{ℕ, ◌+◌, ◌<◌, ◌≤◌, length}
use Rattle.mx_heap.specs.Places.{listed_at}
use Rattle.mx_heap.proofs.list.blocks_to.Given as goal

abbrev pub invariant-loop-width : goal.invariant-loop-width
invariant-loop-width l = record {
  within : l.low + l.width ≤ length l.blocks;
  before : (k : ℕ) → k < l.low → (listed_at l.blocks k).first ≤ l.word;
  behind : (k : ℕ) → l.low + l.width ≤ k → k < length l.blocks → l.word < (listed_at l.blocks k).first;
}

abbrev pub decreases-loop-width : goal.decreases-loop-width
decreases-loop-width l = l.width
