use Rattle.std.proofs.Common.{◌≡◌, ℕ, ◌+◌, ◌-◌, ◌<◌, ◌≤◌, true}
use Rattle.mx_words.specs.Rights.{same, perm_at}
use Rattle.mx_plain.proofs.runs.alike_before.Given as goal

abbrev pub invariant-loop-count : goal.invariant-loop-count
invariant-loop-count l = (l.low + l.count ≤ l.end) × ((k : ℕ) → l.end ≤ k + l.count → k < l.end → same l.perm (perm_at l.map k) ≡ true)

abbrev pub decreases-loop-count : goal.decreases-loop-count
decreases-loop-count l = l.end - l.low - l.count
