use Rattle.std.proofs.Common.{below_more}
use Rattle.mx_trie.proofs.scan.is_even.Goals as goal

pub loop-e-preserved : goal.loop-e-preserved
loop-e-preserved g c = below_more _ _ c.loop-e.invariant (c.is_uniform.ensures.yes c.if-not-is_uniform.false)
