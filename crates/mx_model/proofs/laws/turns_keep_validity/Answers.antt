use Rattle.mx_model.proofs.laws.turns_keep_validity.Goals as goal
use Rattle.mx_model.proofs.TurnLaws.{valid-turned}

pub returns : goal.returns
returns c = valid-turned
