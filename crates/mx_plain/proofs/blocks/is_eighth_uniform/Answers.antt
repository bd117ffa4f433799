use Rattle.mx_plain.proofs.BlockTests.{even_decides}
use Rattle.mx_plain.proofs.blocks.is_eighth_uniform.Goals as goal

pub returns : goal.returns
returns g c = even_decides (g.M.WordMap.list c.args.map.now) c.args.size c.args.block c.is_even.result c.requires.size c.requires.some
    c.is_even.ensures
