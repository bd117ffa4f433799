use Rattle.std.proofs.Common.{◌≡◌, ◌≤◌, drop}
use Rattle.mx_words.specs.Reach.{packed}
use Rattle.mx_trie.proofs.vector.pack_line.Given as goal

abbrev pub invariant-loop-place : goal.invariant-loop-place
invariant-loop-place l = (l.word ≡ packed (drop l.place l.perms)) × (l.place ≤ 16)

abbrev pub decreases-loop-place : goal.decreases-loop-place
decreases-loop-place l = l.place
