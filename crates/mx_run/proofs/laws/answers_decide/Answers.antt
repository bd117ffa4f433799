use Rattle.mx_run.proofs.Outcomes.{leads_decided}
use Rattle.mx_run.proofs.laws.answers_decide.Goals as goal

pub returns : goal.returns
returns c = leads_decided
