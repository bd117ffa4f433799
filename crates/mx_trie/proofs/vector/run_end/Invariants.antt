use Rattle.std.proofs.Common.{◌≡◌, ◌-◌, ℕ, ◌<◌, ◌≤◌}
use Rattle.mx_trie.specs.Digits.{digit}
use Rattle.mx_trie.proofs.vector.run_end.Given as goal

abbrev pub invariant-loop-end : goal.invariant-loop-end
invariant-loop-end l =
    (l.i < l.end) × (l.end ≤ 16) × ((k : ℕ) → l.i ≤ k → k < l.end → digit l.entry k ≡ digit l.entry l.i)

abbrev pub decreases-loop-end : goal.decreases-loop-end
decreases-loop-end l = 16 - l.end
