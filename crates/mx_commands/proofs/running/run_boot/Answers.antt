use Rattle.std.proofs.Common.{refl}
use Rattle.mx_commands.proofs.Continued.{continues_wanting}
use Rattle.mx_commands.proofs.running.run_boot.Goals as goal

pub returns-in-Ok : goal.returns-in-Ok
returns-in-Ok g c = λ s new is. rw c.in-Ok.ensures at (c.run_from-status.ensures s new is)

pub returns-in-Err : goal.returns-in-Err
returns-in-Err g c = λ s new is. continues_wanting g.S.Store.gives _ c.args.store.now refl
    (record { console = refl; report = refl; dump = refl })
