use Rattle.mx_runs.proofs.foreign.foreign_words_stay.Goals as goal
use Rattle.mx_runs.proofs.ForeignRunLaws.{maps-word, nobody-word, run-word, state-word, turns-word}

pub returns-clause-turn : goal.returns-clause-turn
returns-clause-turn c = state-word

pub returns-clause-flat : goal.returns-clause-flat
returns-clause-flat c = maps-word

pub returns-clause-turns : goal.returns-clause-turns
returns-clause-turns c = turns-word

pub returns-clause-nobody : goal.returns-clause-nobody
returns-clause-nobody c = nobody-word

pub returns-clause-run : goal.returns-clause-run
returns-clause-run c = run-word
