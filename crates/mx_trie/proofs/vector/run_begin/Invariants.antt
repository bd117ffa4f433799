use Rattle.std.proofs.Common.{◌≡◌, ℕ, ◌≤◌}
use Rattle.mx_trie.specs.Digits.{digit}
use Rattle.mx_trie.proofs.vector.run_begin.Given as goal

abbrev pub invariant-loop-begin : goal.invariant-loop-begin
invariant-loop-begin l = (l.begin ≤ l.i) × ((k : ℕ) → l.begin ≤ k → k ≤ l.i → digit l.entry k ≡ digit l.entry l.i)

abbrev pub decreases-loop-begin : goal.decreases-loop-begin
decreases-loop-begin l = l.begin
