use Rattle.std.proofs.Common.{arith}
use Rattle.mx_segments.specs.Sound.{map_in}
use Rattle.mx_segments.proofs.ChangeLaws.{total_is}
use Rattle.mx_segments.proofs.plan.frames_after.Goals as goal

pub returns-clause-frames : goal.returns-clause-frames
returns-clause-frames c =
    let m = map_in c.args.words c.args.leaf.now c.args.chains.now.lists c.args.row in
    let e = total_is c.args.words m c.requires.sound.length_is c.args.first c.args.count c.args.perm c.requires.some c.requires.inside
    c.plan_of-plan.result c.plan_of-plan.ensures.plan in
    omega (arith, e, c.total.ensures, c.div_ceil.ensures)
