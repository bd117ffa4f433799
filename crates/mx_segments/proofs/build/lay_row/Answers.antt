use Rattle.std.proofs.Common.{◌≤◌, length, ◌∙◌, ap, arith}
use Rattle.mx_words.specs.Need.{segment_frames}
use Rattle.mx_table.proofs.RowLaws.{first_all}
use Rattle.mx_pool.specs.Frames.{free_in}
use Rattle.mx_segments.specs.Store.{frames_in}
use Rattle.mx_segments.proofs.BuildLaws.{free_moved, spare_left}
use Rattle.mx_segments.proofs.build.lay_row.Goals as goal

pub lay_span-requires-clause-spare : goal.lay_span-requires-clause-spare
lay_span-requires-clause-spare c =
    let i = c.loop-n.invariant in
    let moved = free_moved c.args.leaf.now c.args.chains.now.lists c.loop-n.leaf c.loop-n.chains.lists c.args.row c.requires.store i.store
    i.others c.requires.row in
    let le : c.loop-n.n ≤ length c.args.spans.now = omega (arith, c.loop-n-test.true, c.len-n-end.ensures) in
    spare_left c.args.words c.args.spans.now c.loop-n.n c.requires.spans le (free_in c.loop-n.leaf)
    (frames_in c.loop-n.chains.lists c.args.row) (free_in c.args.leaf.now)
    (omega (arith, moved, c.requires.empty)) (i.sound.frames_are ∙ ap segment_frames i.map) c.requires.spare

pub returns-clause-free : goal.returns-clause-free
returns-clause-free c =
    let i = c.loop-n.invariant in
    let moved = free_moved c.args.leaf.now c.args.chains.now.lists c.loop-n.leaf c.loop-n.chains.lists c.args.row c.requires.store i.store
    i.others c.requires.row in
    let all = first_all c.args.words c.args.spans.now c.requires.spans c.loop-n.n (omega (arith, c.loop-n-test.false, c.len-n-end.ensures))
    in
    let frames = i.sound.frames_are ∙ ap segment_frames (i.map ∙ all) in
    omega (arith, moved, frames, c.requires.empty)
