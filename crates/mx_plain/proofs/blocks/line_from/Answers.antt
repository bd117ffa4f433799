use Rattle.std.proofs.Common.{arith}
use Rattle.mx_plain.proofs.BlockTests.{whole_line_is}
use Rattle.mx_plain.proofs.blocks.line_from.Goals as goal

pub returns : goal.returns
returns g c =
    whole_line_is (g.M.WordMap.list c.args.map.now) c.args.first c.loop-i.line c.loop-i.invariant.0
    (λ k below. c.loop-i.invariant.1 k (omega arith))
