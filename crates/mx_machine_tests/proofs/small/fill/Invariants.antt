use Rattle.std.proofs.Common.{◌≡◌, length}
use Rattle.mx_machine_tests.proofs.small.fill.Given as goal

abbrev pub invariant-loop-i : goal.invariant-loop-i
invariant-loop-i l = length l.ram ≡ 65536
