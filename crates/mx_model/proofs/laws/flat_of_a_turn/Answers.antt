use Rattle.mx_model.proofs.laws.flat_of_a_turn.Goals as goal
use Rattle.mx_model.proofs.FlatLaws.{flat-turn, made-flat}

pub returns-clause-state : goal.returns-clause-state
returns-clause-state c = flat-turn

pub returns-clause-made : goal.returns-clause-made
returns-clause-made c = made-flat
