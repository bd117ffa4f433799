use Rattle.mx_snapshot.proofs.ResumedRuns.{saved-takes-up}
use Rattle.mx_snapshot.proofs.SameLaws.{run-taken}
use Rattle.mx_snapshot.proofs.resuming.resumed_runs.Goals as goal
use Rattle.mx_snapshot.specs.Resumed.{state_of}
use Rattle.mx_snapshot.specs.Stored.{stored_of}
use Rattle.mx_model.specs.Run.{run}
use Rattle.mx_model.specs.State.{flat}

pub returns-clause-same : goal.returns-clause-same
returns-clause-same c = λ p n m s kept valid. (run-taken p n m s (state_of (stored_of kept (flat (run p n s))))
    (saved-takes-up p n s kept valid)).same

pub returns-clause-console : goal.returns-clause-console
returns-clause-console c = λ p n m s kept valid. (run-taken p n m s (state_of (stored_of kept (flat (run p n s))))
    (saved-takes-up p n s kept valid)).console

pub returns-clause-notes : goal.returns-clause-notes
returns-clause-notes c = λ p n m s kept valid. (run-taken p n m s (state_of (stored_of kept (flat (run p n s))))
    (saved-takes-up p n s kept valid)).notes
