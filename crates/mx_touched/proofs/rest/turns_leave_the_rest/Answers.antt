use Rattle.mx_touched.proofs.rest.turns_leave_the_rest.Goals as goal
use Rattle.mx_touched.proofs.Leaves.{leaves-flat, leaves-rest, leaves-state, touched-inside}

pub returns-clause-rest : goal.returns-clause-rest
returns-clause-rest c = leaves-rest

pub returns-clause-state : goal.returns-clause-state
returns-clause-state c = leaves-state

pub returns-clause-flat : goal.returns-clause-flat
returns-clause-flat c = leaves-flat

pub returns-clause-inside : goal.returns-clause-inside
returns-clause-inside c = touched-inside
