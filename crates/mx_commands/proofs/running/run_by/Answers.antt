use Rattle.mx_commands.specs.Asked.{order_of}
use Rattle.mx_commands.specs.Commands.{run_of}
use Rattle.mx_commands.proofs.Endings.{ends_left, ends_failed}
use Rattle.mx_commands.proofs.running.run_by.Goals as goal

pub returns-in-Ok : goal.returns-in-Ok
returns-in-Ok g c = λ s new is. ends_left (run_of (order_of c.args.order.now) c.args.kept.now s _) _ _ (c.in-Ok.ensures s new is)

pub returns-in-Err : goal.returns-in-Err
returns-in-Err g c = λ s new is. rw c.fault_of.ensures (ends_failed (run_of (order_of c.args.order.now) c.args.kept.now s _) _ _
    c.in-Err.fault (c.in-Err.ensures s new is))
