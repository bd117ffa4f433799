-- Numbers of 32 bits in what a machine starts or resumes with.
use Rattle.std.specs.Prelude.{◌≡◌, ℕ, ◌^◌, ◌<◌, ◌≤◌, List, length, slice_index}
use Rattle.std.specs.List.{AllByRecursion}
use Rattle.mx_words.specs.Limits.{most_frames}
use Rattle.mx_model.specs.declared.values.Frame.{Frame}
use Rattle.mx_machine.specs.declared.starts.HartStart.{HartStart}
use Rattle.mx_machine.specs.declared.starts.HartState.{HartState}

-- so many numbers
pub record AreSmall (n : ℕ) (xs : List ℕ) : Type 0 where
  pub count : length xs ≡ n
  pub small : (i : ℕ) → slice_index xs i < 2 ^ 32

-- those of a start
abbrev pub IsSmallStart : HartStart → Type 0
IsSmallStart s = s.pc < 2 ^ 32

-- those of a frame, and of the frames of a cross stack
pub record IsSmallFrame (f : Frame) : Type 0 where
  pub back : f.back < 2 ^ 32
  pub kept : AreSmall 15 f.kept

pub record AreSmallFrames (fs : List Frame) : Type 0 where
  pub few : length fs ≤ most_frames
  pub each : AllByRecursion IsSmallFrame fs

-- those of what a hart resumes with
pub record IsSmallState (s : HartState) : Type 0 where
  pub pc : s.pc < 2 ^ 32
  pub regs : AreSmall 32 s.regs
  pub frames : AreSmallFrames s.frames
