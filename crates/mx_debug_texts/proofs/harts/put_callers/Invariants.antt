use Rattle.std.proofs.Common.{◌≡◌, ◌++◌, flat_map, take}
use Rattle.mx_any.specs.Machines.{meaning}
use Rattle.mx_model.specs.State.{hart_at}
use Rattle.mx_model.specs.declared.values.Frame.{Frame}
use Rattle.mx_debug_texts.specs.Documents.{name_of}
use Rattle.mx_debug_texts.specs.Window.{further}
use Rattle.mx_debug_texts.proofs.harts.put_callers.Given as goal

abbrev pub invariant-loop-i : goal.invariant-loop-i
invariant-loop-i l =
    l.window ≡ further l.initial.window (flat_map (λ (f : Frame). name_of l.plan f.caller ++ l.arrow)
    (take l.i (hart_at (meaning l.machine).core l.hart).frames))
