use Rattle.mx_laws.proofs.comparison.agreement_is_a_test.Goals as goal
use Rattle.mx_laws.proofs.ComparisonLaws.{agrees-decides, bounded-state, bounded-flat}

pub returns-clause-test : goal.returns-clause-test
returns-clause-test c = agrees-decides

pub returns-clause-state : goal.returns-clause-state
returns-clause-state c = bounded-state

pub returns-clause-flat : goal.returns-clause-flat
returns-clause-flat c = bounded-flat
