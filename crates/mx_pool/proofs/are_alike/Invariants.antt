use Rattle.std.proofs.Common.{◌≡◌, ℕ, ◌<◌, ◌≤◌, true, get_or}
use Rattle.mx_pool.proofs.are_alike.Given as goal

-- the words so far are equal exactly where the mark says so
abbrev pub invariant-loop-i : goal.invariant-loop-i
invariant-loop-i l = record {
  yes : l.alike ≡ true → (k : ℕ) → l.first ≤ k → k < l.i → get_or l.words k 0 ≡ l.word;
  no : ((k : ℕ) → l.first ≤ k → k < l.i → get_or l.words k 0 ≡ l.word) → l.alike ≡ true;
}
