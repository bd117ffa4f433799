use Rattle.std.proofs.Common.{◌≡◌, length}
use Rattle.mx_part_tests.proofs.areas.give_every_second.Given as goal

abbrev pub invariant-loop-pair : goal.invariant-loop-pair
invariant-loop-pair l = length l.owners ≡ 16384
