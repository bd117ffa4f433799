use Rattle.mx_resume.specs.Snapshot.{snapshot_of}
use Rattle.mx_commands.specs.Resumed.{Onward, after_snapshot, resumed}
use Rattle.mx_commands.proofs.Resumptions.{snapshot_on}
use Rattle.mx_commands.proofs.resuming.take_snapshot.Goals as goal

pub returns-in-Ok : goal.returns-in-Ok
returns-in-Ok g c =
    let takes = rw c.snapshot_file.ensures at c.in-Ok.ensures.takes in
    let name = c.args.name.now in
    snapshot_on g.S.Store.gives (after_snapshot name) (λ (rest : Onward). resumed name rest (snapshot_of c.in-Ok.bytes.items)) _ _ _ _ _ _
    takes.0
    (λ rest. takes.1 (λ bytes. resumed name rest (snapshot_of bytes))) _ (rw c.from_vec.ensures at c.take_up.ensures)

pub returns-in-Err : goal.returns-in-Err
returns-in-Err g c =
    let takes = rw c.snapshot_file.ensures at c.in-Err.ensures.takes in
    λ rest console dump. takes (λ bytes. resumed c.args.name.now rest (snapshot_of bytes)) console dump
