use Rattle.mx_runs.proofs.twins.twins_run.Goals as goal
use Rattle.mx_runs.proofs.TwinRunLaws.{twins-run}

pub returns : goal.returns
returns c = twins-run
