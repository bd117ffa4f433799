use Rattle.mx_snapshot.proofs.laws.taken_up_after_a_run.Goals as goal
use Rattle.mx_snapshot.proofs.SameLaws.{run-taken}

pub returns-clause-same : goal.returns-clause-same
returns-clause-same c = λ p n m s t e. (run-taken p n m s t e).same

pub returns-clause-console : goal.returns-clause-console
returns-clause-console c = λ p n m s t e. (run-taken p n m s t e).console

pub returns-clause-notes : goal.returns-clause-notes
returns-clause-notes c = λ p n m s t e. (run-taken p n m s t e).notes
