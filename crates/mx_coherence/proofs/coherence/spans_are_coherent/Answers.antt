use Rattle.mx_coherence.proofs.coherence.spans_are_coherent.Goals as goal
use Rattle.mx_coherence.proofs.RunLaws.{coherent-empty, coherent-run, coherent-turn, stale-none, whole-flat}

pub returns-clause-empty : goal.returns-clause-empty
returns-clause-empty c = coherent-empty

pub returns-clause-turn : goal.returns-clause-turn
returns-clause-turn c = coherent-turn

pub returns-clause-whole : goal.returns-clause-whole
returns-clause-whole c = whole-flat

pub returns-clause-run : goal.returns-clause-run
returns-clause-run c = coherent-run

pub returns-clause-maps : goal.returns-clause-maps
returns-clause-maps c = stale-none
