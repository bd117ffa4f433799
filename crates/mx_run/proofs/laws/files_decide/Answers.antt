use Rattle.mx_run.proofs.Outcomes.{one_outcome, some_outcome}
use Rattle.mx_run.proofs.laws.files_decide.Goals as goal

pub returns-clause-some : goal.returns-clause-some
returns-clause-some c = some_outcome

pub returns-clause-one : goal.returns-clause-one
returns-clause-one c = one_outcome
