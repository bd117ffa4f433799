use Rattle.std.proofs.Common.{◌≡◌, ◌%◌}
use Rattle.core_speed.proofs.program.run_at_three.Given as goal

abbrev pub invariant-loop : goal.invariant-loop
invariant-loop l = l.pc % 4 ≡ 0
