use Rattle.mx_snapshot.proofs.ValidRuns.{row-fits, row-same}
use Rattle.mx_snapshot.proofs.resuming.rows_are_maps.Goals as goal

pub returns-clause-same : goal.returns-clause-same
returns-clause-same c = row-same

pub returns-clause-row : goal.returns-clause-row
returns-clause-row c = row-fits
