use Rattle.std.proofs.Common.{◌≡◌, length}
use Rattle.mx_part_tests.proofs.programs.memory.Given as goal

abbrev pub invariant-loop-i : goal.invariant-loop-i
invariant-loop-i l = length l.bus.1 ≡ 16384
