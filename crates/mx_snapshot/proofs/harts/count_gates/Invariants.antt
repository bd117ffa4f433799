use Rattle.std.proofs.Common.{◌-◌, ◌≤◌, length}
use Rattle.mx_any.specs.Machines.{meaning}
use Rattle.mx_snapshot.proofs.harts.count_gates.Given as goal

abbrev pub invariant-gates : goal.invariant-gates
invariant-gates l = l.count ≤ length (meaning l.machine).core.gates

abbrev pub decreases-gates : goal.decreases-gates
decreases-gates l = length (meaning l.machine).core.gates - l.count
