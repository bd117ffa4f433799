use Rattle.mx_snapshot.specs.Kept.{kept_of}
use Rattle.mx_commands.specs.Asked.{order_of}
use Rattle.mx_commands.specs.Boots.{Rest}
use Rattle.mx_commands.specs.Commands.{run_from}
use Rattle.mx_commands.proofs.running.run_manifest.Goals as goal

pub run_boot-requires-clause-plan : goal.run_boot-requires-clause-plan
run_boot-requires-clause-plan g c = let goes = c.in-Ok.ensures.1 in rw goes.means goes.plan

pub run_boot-requires-clause-unmoved : goal.run_boot-requires-clause-unmoved
run_boot-requires-clause-unmoved g c = let goes = c.in-Ok.ensures.1 in rw goes.means goes.size.turns

pub returns-in-Ok : goal.returns-in-Ok
returns-in-Ok g c =
    let takes = c.in-Ok.ensures in
    let goes = takes.1 in
    let o = order_of c.args.order.now in
    let rest : Rest = λ plan s. run_from o (kept_of plan) s in
    goes.comes rest _ _ _ _ (rw takes.0 at (c.run_boot.ensures goes.state goes.new goes.means))

pub returns-in-Err : goal.returns-in-Err
returns-in-Err g c =
    let o = order_of c.args.order.now in
    let rest : Rest = λ plan s. run_from o (kept_of plan) s in
    c.in-Err.ensures rest (g.C.Sink.state c.args.console.now) (g.D.Sink.state c.args.dump.now)
