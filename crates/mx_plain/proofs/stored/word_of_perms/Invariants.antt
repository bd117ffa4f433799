use Rattle.std.proofs.Common.{◌≡◌, ◌≤◌, length, drop}
use Rattle.mx_words.specs.Reach.{packed}
use Rattle.mx_plain.proofs.stored.word_of_perms.Given as goal

abbrev pub invariant-loop-place : goal.invariant-loop-place
invariant-loop-place l = (l.word ≡ packed (drop l.place l.perms)) × (l.place ≤ length l.perms)

abbrev pub decreases-loop-place : goal.decreases-loop-place
decreases-loop-place l = l.place
