use Rattle.mx_model.proofs.laws.run_after_a_run.Goals as goal
use Rattle.mx_model.proofs.RunLaws.{run-add}

pub returns : goal.returns
returns c = run-add
