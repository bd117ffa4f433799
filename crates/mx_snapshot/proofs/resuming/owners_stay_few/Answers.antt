use Rattle.mx_snapshot.proofs.ValidRuns.{owners-few, owners-whole}
use Rattle.mx_snapshot.proofs.resuming.owners_stay_few.Goals as goal

pub returns-clause-part : goal.returns-clause-part
returns-clause-part c = owners-few

pub returns-clause-whole : goal.returns-clause-whole
returns-clause-whole c = owners-whole
