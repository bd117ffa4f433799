use Rattle.std.proofs.Common.{◌-◌, ◌≤◌, drop, flat_map, length}
use Rattle.mx_any.specs.Machines.{meaning}
use Rattle.mx_model.specs.State.{hart_at}
use Rattle.mx_tail.proofs.PassLaws.{Coming}
use Rattle.mx_snapshot.specs.Spelling.{frame_bytes}
use Rattle.mx_snapshot.proofs.harts.put_frame_list.Given as goal

abbrev pub invariant-frames : goal.invariant-frames
invariant-frames g l =
    let xs = (hart_at (meaning l.machine).core l.hart).frames in
    record {
      within : l.i ≤ length xs;
      coming : Coming l.initial.tail (g.R.Sink.state l.initial.sink) (flat_map frame_bytes xs) l.tail (g.R.Sink.state l.sink)
          (flat_map frame_bytes (drop l.i xs));
    }

abbrev pub decreases-frames : goal.decreases-frames
decreases-frames g l = length (hart_at (meaning l.machine).core l.hart).frames - l.i
