use Rattle.std.proofs.Common.{◌≤◌}
use Rattle.tables_speed.proofs.allocs.fits.Given as goal

abbrev pub invariant-loop : goal.invariant-loop
invariant-loop g l = l.fit ≤ l.counter
