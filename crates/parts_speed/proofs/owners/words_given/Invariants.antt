use Rattle.std.proofs.Common.{◌≡◌, length}
use Rattle.parts_speed.proofs.owners.words_given.Given as goal

abbrev pub invariant-loop-i : goal.invariant-loop-i
invariant-loop-i l = length l.owners ≡ 16777216
