use Rattle.std.proofs.Common.{sym, length, ◌≤◌, arith}
use Rattle.mx_machine.specs.Smalls.{IsSmallFrame}
use Rattle.mx_machine.proofs.SmallLaws.{first-all, first-more, first-past}
use Rattle.mx_machine.proofs.starts.frames_of.Goals.{in-Some, in-None}
use Rattle.mx_machine.proofs.starts.frames_of.Goals as goal

pub loop-i-preserved : goal.loop-i-preserved
loop-i-preserved c =
    elim c.match-frame.branch [
      | in-Some w ↦ first-more IsSmallFrame c.args.frames.now c.loop-i.i w.in-Some.frame c.loop-i.invariant (sym w.in-Some.ensures)
          w.frame_of.ensures
      | in-None w ↦ first-past IsSmallFrame c.args.frames.now c.loop-i.i c.loop-i.invariant (sym w.in-None.ensures)
    ]

pub returns : goal.returns
returns c =
    let all : length c.args.frames.now ≤ c.loop-i.i = omega (arith, c.loop-i-test.false, c.depth-i-end.ensures.number) in
    record {
      few = omega (arith, c.depth-i-end.ensures.number, c.depth-i-end.ensures.bounded);
      each = first-all IsSmallFrame c.args.frames.now c.loop-i.i all c.loop-i.invariant;
    }
