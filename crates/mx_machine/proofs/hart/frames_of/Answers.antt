use Rattle.std.proofs.Common.{◌<◌, ◌≤◌, length, replicate, ◌∙◌, arith}
use Rattle.mx_machine.proofs.FrameLaws.{frame-copied, frame-there}
use Rattle.mx_machine.proofs.hart.frames_of.Goals.{in-Some, in-None}
use Rattle.mx_machine.proofs.hart.frames_of.Goals as goal

pub loop-i-preserved : goal.loop-i-preserved
loop-i-preserved c =
    let frames = c.args.frames.now in
    let lt : c.loop-i.i < length frames = omega (arith, c.loop-i-test.true, c.depth-i-end.ensures.number) in
    let few : length frames ≤ 64 = omega (arith, c.depth-i-end.ensures.number, c.depth-i-end.ensures.bounded) in
    elim c.match-frame.branch [
      | in-Some w ↦ w.copy-is ∙ frame-copied frames c.loop-i.copy w.push.new.self c.loop-i.i w.push.result c.loop-i.invariant lt few
          w.in-Some.ensures w.push.ensures.full w.push.ensures.ok
      | in-None w ↦ absurd (frame-there frames c.loop-i.i (record { back = 0; caller = 0; kept = replicate 15 0 }) lt w.in-None.ensures)
    ]
