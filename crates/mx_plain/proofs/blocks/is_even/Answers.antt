use Rattle.std.proofs.Common.{below_more}
use Rattle.mx_plain.proofs.blocks.is_even.Goals as goal

pub loop-e-preserved : goal.loop-e-preserved
loop-e-preserved g c = below_more _ _ c.loop-e.invariant (c.is_uniform.ensures.0 c.if-not-is_uniform.false)
