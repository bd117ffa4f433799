use Rattle.mx_model.proofs.laws.turns_keep_flat_validity.Goals as goal
use Rattle.mx_model.proofs.ValidFlat.{flat-turned}

pub returns : goal.returns
returns c = flat-turned
