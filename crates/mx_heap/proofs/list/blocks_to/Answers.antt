use Rattle.std.proofs.Common.{sym, arith}
use Rattle.std.specs.Prelude.{nat_lt}
use Rattle.std.proofs.lemmas.Bool.{le-ltb, lt-ltb}
use Rattle.std.proofs.lemmas.List.Sums.{position_or_len_is}
use Rattle.mx_heap.specs.declared.block.Block.{Block}
use Rattle.mx_heap.specs.Places.{listed_at, no_block}
use Rattle.mx_heap.proofs.list.blocks_to.Goals as goal

pub returns-clause-place : goal.returns-clause-place
returns-clause-place c = sym (position_or_len_is (λ (b : Block). nat_lt c.args.word b.first) c.args.blocks.now c.loop-width.low no_block
    (omega (arith, c.loop-width.invariant.within))
    (λ k lt. le-ltb c.args.word (listed_at c.args.blocks.now k).first (c.loop-width.invariant.before k lt))
    (λ lt. lt-ltb c.args.word (listed_at c.args.blocks.now c.loop-width.low).first
    (c.loop-width.invariant.behind c.loop-width.low (omega arith) lt)))
