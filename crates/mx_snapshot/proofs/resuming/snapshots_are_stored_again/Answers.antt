use Rattle.mx_snapshot.proofs.ValidBack.{stored-again}
use Rattle.mx_snapshot.proofs.resuming.snapshots_are_stored_again.Goals as goal

pub returns : goal.returns
returns c = stored-again
