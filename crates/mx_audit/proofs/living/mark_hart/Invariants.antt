use Rattle.std.proofs.Common.{◌≡◌, ◌-◌, ◌≤◌, length, take, IsTrue}
use Rattle.std.specs.List.{AllByRecursion}
use Rattle.mx_any.specs.Machines.{meaning}
use Rattle.mx_model.specs.declared.values.Frame.{Frame}
use Rattle.mx_model.specs.State.{hart_at}
use Rattle.mx_audit.specs.Marks.{KeepMarks, MarkOnlyLive, is_marked}
use Rattle.mx_audit.proofs.living.mark_hart.Given as goal

abbrev pub invariant-frames : goal.invariant-frames
invariant-frames l =
    let hart = hart_at (meaning l.machine).core l.hart in
    record {
      long : length l.live ≡ 64;
      within : l.i ≤ length hart.frames;
      only : MarkOnlyLive (meaning l.machine).core l.live;
      kept : KeepMarks l.fn.live l.live;
      domain : IsTrue (is_marked l.live hart.domain);
      callers : AllByRecursion (λ (f : Frame). IsTrue (is_marked l.live f.caller)) (take l.i hart.frames);
    }

abbrev pub decreases-frames : goal.decreases-frames
decreases-frames l = length (hart_at (meaning l.machine).core l.hart).frames - l.i
