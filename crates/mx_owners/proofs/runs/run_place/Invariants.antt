use Rattle.std.proofs.Common.{ℕ, ◌+◌, ◌<◌, ◌≤◌, length}
use Rattle.mx_owners.specs.OwnerRuns.{run_at}
use Rattle.mx_owners.proofs.runs.run_place.Given as goal

abbrev pub invariant-loop-width : goal.invariant-loop-width
invariant-loop-width l = record {
  within : l.low + l.width ≤ length l.runs;
  before : (k : ℕ) → k < l.low → (run_at l.runs k).end ≤ l.word;
  behind : (k : ℕ) → l.low + l.width ≤ k → k < length l.runs → l.word < (run_at l.runs k).end;
}

abbrev pub decreases-loop-width : goal.decreases-loop-width
decreases-loop-width l = l.width
