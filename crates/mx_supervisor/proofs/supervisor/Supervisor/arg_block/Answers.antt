use Rattle.mx_supervisor.proofs.Modules.{module-blocks}
use Rattle.mx_supervisor.proofs.supervisor.Supervisor.arg_block.Goals as goal

pub returns-in_default-clause-there : goal.returns-in_default-clause-there
returns-in_default-clause-there g c = λ rest. rw (c.in_default.ensures.there)

pub returns-in-Some-block-clause-there : goal.returns-in-Some-block-clause-there
returns-in-Some-block-clause-there g c = λ rest.
    rw (c.in-Some.ensures.there, module-blocks, c.in-Some.ensures.word, ← c.in-Some-block.ensures.count)

pub returns-in-None-clause-there : goal.returns-in-None-clause-there
returns-in-None-clause-there g c = λ rest.
    rw (c.in-Some.ensures.there, module-blocks, c.in-Some.ensures.word, ← c.in-None.ensures.count)

pub arg_word-requires : goal.arg_word-requires
arg_word-requires g c = search
