use Rattle.std.proofs.Common.{refl, sym}
use Rattle.mx_segments.proofs.SoundLaws.{start_end}
use Rattle.mx_segments.proofs.entries.start_at.Goals as goal

pub returns-in-None : goal.returns-in-None
returns-in-None c =
    sym (start_end c.args.words c.args.leaf.now c.args.chains.now.lists c.args.row c.requires.sound c.args.i
    (c.in-None.ensures.none.0 refl))
