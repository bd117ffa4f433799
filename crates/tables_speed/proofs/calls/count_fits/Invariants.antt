use Rattle.std.proofs.Common.{◌≤◌}
use Rattle.tables_speed.proofs.calls.count_fits.Given as goal

abbrev pub invariant-loop-i : goal.invariant-loop-i
invariant-loop-i g l = l.fit ≤ l.i
