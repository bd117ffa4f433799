use Rattle.mx_uncached.proofs.laws.caches_decide_nothing.Goals as goal
use Rattle.mx_uncached.proofs.TurnLaws.{turn-plain}
use Rattle.mx_uncached.proofs.RunLaws.{run-plain, run-alike}

pub returns-clause-turn : goal.returns-clause-turn
returns-clause-turn c = turn-plain

pub returns-clause-run : goal.returns-clause-run
returns-clause-run c = run-plain

pub returns-clause-alike : goal.returns-clause-alike
returns-clause-alike c = run-alike
