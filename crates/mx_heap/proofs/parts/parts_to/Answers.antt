use Rattle.std.proofs.Common.{sym, arith}
use Rattle.std.specs.Prelude.{nat_lt}
use Rattle.std.proofs.lemmas.Bool.{le-ltb, lt-ltb}
use Rattle.std.proofs.lemmas.List.Sums.{position_or_len_is}
use Rattle.mx_heap.specs.declared.parts.Part.{Part}
use Rattle.mx_heap.specs.Places.{part_at, wall}
use Rattle.mx_heap.proofs.parts.parts_to.Goals as goal

pub returns-clause-place : goal.returns-clause-place
returns-clause-place c = sym (position_or_len_is (λ (p : Part). nat_lt c.args.word p.first) c.args.parts.now c.loop-width.low wall
    (omega (arith, c.loop-width.invariant.within))
    (λ k lt. le-ltb c.args.word (part_at c.args.parts.now k).first (c.loop-width.invariant.before k lt))
    (λ lt. lt-ltb c.args.word (part_at c.args.parts.now c.loop-width.low).first
    (c.loop-width.invariant.behind c.loop-width.low (omega arith) lt)))
