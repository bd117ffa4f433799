use Rattle.mx_laws.proofs.isolation.turns_of_twins.Goals as goal
use Rattle.mx_laws.proofs.TwinLaws.{border-twins, ran-free, idle-ended, store-twins}
use Rattle.mx_laws.proofs.AfterLaws.{agree-after, flat-agree-after}

pub returns-clause-border : goal.returns-clause-border
returns-clause-border c = border-twins

pub returns-clause-ran : goal.returns-clause-ran
returns-clause-ran c = ran-free

pub returns-clause-idle : goal.returns-clause-idle
returns-clause-idle c = idle-ended

pub returns-clause-store : goal.returns-clause-store
returns-clause-store c = store-twins

pub returns-clause-agreement : goal.returns-clause-agreement
returns-clause-agreement c = agree-after

pub returns-clause-flat : goal.returns-clause-flat
returns-clause-flat c = flat-agree-after
