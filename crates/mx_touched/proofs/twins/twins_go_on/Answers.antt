use Rattle.mx_touched.proofs.twins.twins_go_on.Goals as goal
use Rattle.mx_touched.proofs.Going.{border-kind, halted-holds, halted-turn, pair-turn}
use Rattle.mx_touched.proofs.Pairs.{start-known}

pub returns-clause-start : goal.returns-clause-start
returns-clause-start c = start-known

pub returns-clause-border : goal.returns-clause-border
returns-clause-border c = border-kind

pub returns-clause-ended : goal.returns-clause-ended
returns-clause-ended c = halted-holds

pub returns-clause-halted : goal.returns-clause-halted
returns-clause-halted c = halted-turn

pub returns-clause-pair : goal.returns-clause-pair
returns-clause-pair c = pair-turn
