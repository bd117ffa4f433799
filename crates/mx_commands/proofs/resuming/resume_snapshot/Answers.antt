use Rattle.mx_commands.specs.Asked.{order_of}
use Rattle.mx_commands.specs.Commands.{run_from}
use Rattle.mx_commands.proofs.resuming.resume_snapshot.Goals as goal

pub run_taken-requires-clause-plan : goal.run_taken-requires-clause-plan
run_taken-requires-clause-plan g c = let goes = c.in-Ok.ensures.1 in rw goes.means goes.plan

pub run_taken-requires-clause-turns : goal.run_taken-requires-clause-turns
run_taken-requires-clause-turns g c = let goes = c.in-Ok.ensures.1 in rw goes.means goes.turns

pub returns-in-Ok : goal.returns-in-Ok
returns-in-Ok g c =
    let takes = c.in-Ok.ensures in
    let goes = takes.1 in
    goes.comes (run_from (order_of c.args.order.now)) _ _ _ _ (rw takes.0 at (c.run_taken.ensures goes.state goes.new goes.means))

pub returns-in-Err : goal.returns-in-Err
returns-in-Err g c = c.in-Err.ensures (run_from (order_of c.args.order.now)) (g.C.Sink.state c.args.console.now)
    (g.D.Sink.state c.args.dump.now)
