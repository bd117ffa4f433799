use Rattle.std.proofs.Common.{◌≡◌, length}
use Rattle.mx_call_tests.proofs.played.crowded_owners.Given as goal

abbrev pub invariant-loop-i : goal.invariant-loop-i
invariant-loop-i l = length l.owners ≡ 16384
