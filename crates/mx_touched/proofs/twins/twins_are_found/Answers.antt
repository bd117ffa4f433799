use Rattle.mx_touched.proofs.twins.twins_are_found.Goals as goal
use Rattle.mx_touched.proofs.Pairs.{known-holds, known-right, ran-right, unknown-right}

pub returns-clause-holds : goal.returns-clause-holds
returns-clause-holds c = known-holds

pub returns-clause-known : goal.returns-clause-known
returns-clause-known c d h f g p k q = known-right d h f g p q k

pub returns-clause-unknown : goal.returns-clause-unknown
returns-clause-unknown c d h f g p k q = unknown-right d h f g p q k

pub returns-clause-ran : goal.returns-clause-ran
returns-clause-ran c = ran-right
