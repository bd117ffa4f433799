use Rattle.mx_snapshot.proofs.GivenBack.{given-back, plan-back}
use Rattle.mx_snapshot.proofs.resuming.states_are_given_back.Goals as goal

pub returns-clause-state : goal.returns-clause-state
returns-clause-state c = given-back

pub returns-clause-plan : goal.returns-clause-plan
returns-clause-plan c = plan-back
