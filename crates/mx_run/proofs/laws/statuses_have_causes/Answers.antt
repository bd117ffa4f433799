use Rattle.mx_run.proofs.Caused.{caused_status}
use Rattle.mx_run.proofs.Causes.{status_caused}
use Rattle.mx_run.proofs.laws.statuses_have_causes.Goals as goal

pub returns-clause-only : goal.returns-clause-only
returns-clause-only c = status_caused

pub returns-clause-exactly : goal.returns-clause-exactly
returns-clause-exactly c = caused_status
