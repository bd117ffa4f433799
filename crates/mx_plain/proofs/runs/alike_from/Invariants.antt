use Rattle.std.proofs.Common.{◌≡◌, ℕ, ◌-◌, ◌<◌, ◌≤◌, true}
use Rattle.mx_words.specs.Rights.{same, perm_at}
use Rattle.mx_plain.proofs.runs.alike_from.Given as goal

abbrev pub invariant-loop-word : goal.invariant-loop-word
invariant-loop-word l = (l.first ≤ l.word) × (l.first < l.word → l.word ≤ l.end) × ((k : ℕ) → l.first ≤ k → k < l.word
    → same l.perm (perm_at l.map k) ≡ true)

abbrev pub decreases-loop-word : goal.decreases-loop-word
decreases-loop-word l = l.end - l.word
