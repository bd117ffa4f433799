use Rattle.mx_snapshot.proofs.laws.same_after_a_run.Goals as goal
use Rattle.mx_snapshot.proofs.SameLaws.{run-same, run-alike}

pub returns-clause-same : goal.returns-clause-same
returns-clause-same c = run-alike

pub returns-clause-console : goal.returns-clause-console
returns-clause-console c = λ p n s t e. (run-same p n s t e).console

pub returns-clause-notes : goal.returns-clause-notes
returns-clause-notes c = λ p n s t e. (run-same p n s t e).notes
