use Rattle.std.proofs.Common.{◌-◌}
use Rattle.mx_any.specs.Machines.{meaning}
use Rattle.mx_twin.proofs.Going.{IsGoing}
use Rattle.mx_twin.proofs.run.run_twin.Given as goal

abbrev pub invariant-turns : goal.invariant-turns
invariant-turns l =
    IsGoing l.domain l.quantum l.steps l.harts (meaning l.fn.a) (meaning l.fn.b) l.made (meaning l.a) (meaning l.b) l.known

abbrev pub decreases-turns : goal.decreases-turns
decreases-turns l = l.steps - l.made
