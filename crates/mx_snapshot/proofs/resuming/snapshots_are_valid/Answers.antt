use Rattle.mx_snapshot.proofs.ValidKept.{stored-kept}
use Rattle.mx_snapshot.proofs.ValidState.{plan-is, state-lists, stored-flat}
use Rattle.mx_snapshot.proofs.resuming.snapshots_are_valid.Goals as goal

pub returns-clause-flat : goal.returns-clause-flat
returns-clause-flat c = stored-flat

pub returns-clause-lists : goal.returns-clause-lists
returns-clause-lists c = state-lists

pub returns-clause-kept : goal.returns-clause-kept
returns-clause-kept c = stored-kept

pub returns-clause-plan : goal.returns-clause-plan
returns-clause-plan c = plan-is
