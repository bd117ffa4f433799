use Rattle.mx_resume.specs.Snapshot.{FaultAt, NeedsMore}
use Rattle.mx_commands.proofs.Resumptions.{snapshot_given, snapshot_refused, snapshot_wanting}
use Rattle.mx_commands.proofs.resuming.take_up.Goals as goal

pub returns-in-Ok : goal.returns-in-Ok
returns-in-Ok g c =
    let read = c.in-Ok.ensures in
    snapshot_given g.S.Store.gives c.args.name.now c.args.bytes c.args.store.now _ c.in-Ok.taken read.stored.0 read.stored.1 read.stored.2
    read.of_plan read.turns

pub returns-in-Err-Fault : goal.returns-in-Err-Fault
returns-in-Err-Fault g c =
    let why = rw c.in-Err-Fault.field-0-is at c.in-Err-Fault.ensures.refused in
    snapshot_refused g.S.Store.gives c.args.name.now c.args.bytes c.args.store.now _ _ (FaultAt c.in-Err-Fault.at c.in-Err-Fault.number) why
    _ c.refuse.ensures

pub returns-in-Err-TablesFull : goal.returns-in-Err-TablesFull
returns-in-Err-TablesFull g c =
    let why = rw c.in-Err-TablesFull.field-0-is at c.in-Err-TablesFull.ensures.refused in
    snapshot_refused g.S.Store.gives c.args.name.now c.args.bytes c.args.store.now _ _
    (NeedsMore c.in-Err-TablesFull.need c.in-Err-TablesFull.limit) why _ c.refuse-in-Err-TablesFull.ensures

pub returns-in-Err-NoMemory : goal.returns-in-Err-NoMemory
returns-in-Err-NoMemory g c = snapshot_wanting g.S.Store.gives _ c.args.store.now _
