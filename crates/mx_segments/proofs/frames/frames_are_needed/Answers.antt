use Rattle.std.proofs.Common.{arith}
use Rattle.mx_pool.proofs.FrameCounts.{taken-and-free}
use Rattle.mx_segments.specs.Shape.{need_leaf}
use Rattle.mx_segments.proofs.frames.frames_are_needed.Goals as goal

pub returns : goal.returns
returns c =
    let t = c.args.tables.now in
    let need = need_leaf t.words t.leaf t.chains.lists t.kept.sound in
    let counted = t.kept.store.counted in
    omega (arith, need, counted, taken-and-free t.leaf)
