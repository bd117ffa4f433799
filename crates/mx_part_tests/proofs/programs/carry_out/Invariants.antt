use Rattle.std.proofs.Common.{◌≡◌, ◌%◌}
use Rattle.mx_part_tests.proofs.programs.carry_out.Given as goal

abbrev pub invariant-loop-made : goal.invariant-loop-made
invariant-loop-made l = l.pc % 4 ≡ 0
