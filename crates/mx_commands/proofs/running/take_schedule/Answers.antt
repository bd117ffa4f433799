use Rattle.mx_commands.proofs.Scheduled.{schedule_none, schedule_some, schedule_err}
use Rattle.mx_commands.proofs.running.take_schedule.Goals as goal

pub returns-in-Ok : goal.returns-in-Ok
returns-in-Ok g c = rw c.in-Some.is (schedule_some g.S.Store.gives c.in-Some.name.now _ _ _ _ c.in-Ok.bytes
    (rw c.schedule_file.ensures at c.in-Ok.ensures.takes))

pub returns-in-Err : goal.returns-in-Err
returns-in-Err g c = rw c.in-Some.is (schedule_err g.S.Store.gives c.in-Some.name.now _ _ _ _ c.in-Err.status
    (rw c.schedule_file.ensures at c.in-Err.ensures.takes))

pub returns-in-None : goal.returns-in-None
returns-in-None g c = rw c.in-None.is (schedule_none g.S.Store.gives c.args.store.now _)
