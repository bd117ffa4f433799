use Rattle.mx_core.proofs.laws.instructions_are_turns.Goals as goal
use Rattle.mx_core.proofs.TurnLaws.{looks-alike, actions-alike}

pub returns-clause-looks : goal.returns-clause-looks
returns-clause-looks c = looks-alike

pub returns-clause-action : goal.returns-clause-action
returns-clause-action c = actions-alike
