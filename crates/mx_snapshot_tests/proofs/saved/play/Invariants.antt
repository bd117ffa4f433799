use Rattle.mx_any.specs.Machines.{meaning}
use Rattle.mx_snapshot.specs.Kept.{IsOfPlan}
use Rattle.mx_snapshot_tests.proofs.saved.play.Given as goal

abbrev pub invariant-turns : goal.invariant-turns
invariant-turns l = IsOfPlan l.kept (meaning l.machine)
