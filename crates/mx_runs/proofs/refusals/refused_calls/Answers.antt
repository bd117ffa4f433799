use Rattle.mx_runs.proofs.refusals.refused_calls.Goals as goal
use Rattle.mx_runs.proofs.RefusalLaws.{refused-tested, refused-told}
use Rattle.mx_runs.proofs.RefusalTurns.{refused-exact, refused-turn}

pub returns-clause-tested : goal.returns-clause-tested
returns-clause-tested c = refused-tested

pub returns-clause-told : goal.returns-clause-told
returns-clause-told c = refused-told

pub returns-clause-turn : goal.returns-clause-turn
returns-clause-turn c = refused-turn

pub returns-clause-exact : goal.returns-clause-exact
returns-clause-exact c = refused-exact
