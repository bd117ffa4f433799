use Rattle.mx_laws.proofs.isolation.turns_keep_foreign_words.Goals as goal
use Rattle.mx_laws.proofs.ForeignLaws.{foreign-turned, ram-halted, ram-waiting}

pub returns-clause-foreign : goal.returns-clause-foreign
returns-clause-foreign c = foreign-turned

pub returns-clause-halted : goal.returns-clause-halted
returns-clause-halted c = ram-halted

pub returns-clause-waiting : goal.returns-clause-waiting
returns-clause-waiting c = ram-waiting
