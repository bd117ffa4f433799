-- What a turn makes of its hart's frames.
-- The rules: docs/MACHINE.md, "Gates".
use Rattle.std.specs.Prelude.{◌≡◌, [], ◌∷◌, ◌++◌}
use Rattle.mx_model.specs.declared.values.Frame.{Frame}
use Rattle.mx_model.specs.Effect.{reg}
use Rattle.mx_model.specs.State.{Hart}
use Rattle.mx_model.specs.Turn.{saved}

-- the frame that a crossing pushes: back is x1, the caller is the hart's domain, and the fifteen registers are as they are
abbrev pub frame_of : Hart → Frame
frame_of hart = record { back = reg hart.regs 1; caller = hart.domain; kept = saved hart.regs }

-- a hart is where a frame leads back to: its pc, its domain and its fifteen registers are those of the frame
pub record IsBack (f : Frame) (hart : Hart) : Type 0 where
  pub pc : hart.pc ≡ f.back
  pub domain : hart.domain ≡ f.caller
  pub registers : saved hart.regs ≡ f.kept

-- the frames of a hart after its own turn
pub data FramesAfter (before after : Hart) : Type 0 where
  -- they are as they were
  Stay : after.frames ≡ before.frames → FramesAfter before after
  -- one is pushed
  OneMore : after.frames ≡ before.frames ++ frame_of before ∷ [] → FramesAfter before after
  -- the top one is given up
  OneLess : (f : Frame) → before.frames ≡ after.frames ++ f ∷ [] → IsBack f after →
      FramesAfter before after
