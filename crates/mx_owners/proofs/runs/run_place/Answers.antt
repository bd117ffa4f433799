use Rattle.std.proofs.Common.{sym, arith}
use Rattle.std.specs.Prelude.{nat_lt}
use Rattle.std.proofs.lemmas.Bool.{le-ltb, lt-ltb}
use Rattle.std.proofs.lemmas.List.Sums.{position_or_len_is}
use Rattle.mx_owners.specs.declared.runs.Run.{Run}
use Rattle.mx_owners.specs.OwnerRuns.{run_at, no_run}
use Rattle.mx_owners.proofs.runs.run_place.Goals as goal

pub returns-clause-place : goal.returns-clause-place
returns-clause-place c = sym (position_or_len_is (λ (r : Run). nat_lt c.args.word r.end) c.args.runs.now c.loop-width.low no_run
    (omega (arith, c.loop-width.invariant.within))
    (λ k lt. le-ltb c.args.word (run_at c.args.runs.now k).end (c.loop-width.invariant.before k lt))
    (λ lt. lt-ltb c.args.word (run_at c.args.runs.now c.loop-width.low).end
    (c.loop-width.invariant.behind c.loop-width.low (omega arith) lt)))
