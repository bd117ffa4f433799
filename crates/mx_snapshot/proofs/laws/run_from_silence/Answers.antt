use Rattle.std.proofs.Common.{ap}
use Rattle.mx_model.specs.State.{State, flat}
use Rattle.mx_snapshot.proofs.laws.run_from_silence.Goals as goal
use Rattle.mx_snapshot.proofs.SameLaws.{run-silent}

pub returns-clause-flat : goal.returns-clause-flat
returns-clause-flat c = λ p n s. ap flat (run-silent p n s)

pub returns-clause-console : goal.returns-clause-console
returns-clause-console c = λ p n s. ap (λ (x : State). x.console) (run-silent p n s)

pub returns-clause-notes : goal.returns-clause-notes
returns-clause-notes c = λ p n s. ap (λ (x : State). x.notes) (run-silent p n s)
