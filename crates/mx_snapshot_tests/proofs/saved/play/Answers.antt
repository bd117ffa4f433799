use Rattle.mx_any.specs.Machines.{meaning}
use Rattle.mx_snapshot_tests.proofs.saved.play.Goals as goal

pub turns-preserved : goal.turns-preserved
turns-preserved c =
    rw c.step.ensures.turn (c.machines_are_of_their_plan.ensures.turn c.args.kept.now (meaning c.turns.machine) _ c.turns.invariant)
