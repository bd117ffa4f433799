use Rattle.mx_run.proofs.Causes.{resume_refused}
use Rattle.mx_run.proofs.laws.large_schedules_refuse.Goals as goal

pub returns : goal.returns
returns c = resume_refused
