use Rattle.std.proofs.Common.{◌-◌, length}
use Rattle.mx_any.specs.Machines.{meaning}
use Rattle.mx_twin.proofs.GateLists.{IsLeft}
use Rattle.mx_twin.proofs.gates.target.Given as goal

abbrev pub invariant-gates : goal.invariant-gates
invariant-gates l = IsLeft (meaning l.machine).core.gates l.domain l.word l.i

abbrev pub decreases-gates : goal.decreases-gates
decreases-gates l = length (meaning l.machine).core.gates - l.i
