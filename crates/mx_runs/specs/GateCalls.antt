-- Gate calls of a hart in a run: from a turn that pushes a frame to the first moment with no more than before it.
-- The rules: docs/MACHINE.md, "Gates" and "Faults".
use Rattle.std.specs.Prelude.{◌≡◌, ◌⊎◌, ℕ, ◌+◌, ◌<◌, ◌≤◌, false, length}
use Rattle.mx_model.specs.declared.values.TurnKind.TheVariants as T
use Rattle.mx_model.specs.Effect.{reg}
use Rattle.mx_model.specs.Run.{Schedule, hart_of, is_stopped, kind, run}
use Rattle.mx_model.specs.State.{Core, Hart, State, hart_at}
use Rattle.mx_model.specs.Turn.{saved}
use Rattle.mx_laws.specs.After.{frames_at}

-- how many frames hart h has
abbrev pub depth_of : Core → ℕ → ℕ
depth_of c h = length (frames_at c h)

-- the state, hart h and its depth at moment n of a run from s, which is after n turns
abbrev pub at : Schedule → State → ℕ → State
at p s n = run p n s

abbrev pub hart_then : Schedule → State → ℕ → ℕ → Hart
hart_then p s h n = hart_at (at p s n).core h

abbrev pub depth : Schedule → State → ℕ → ℕ → ℕ
depth p s h n = depth_of (at p s n).core h

-- a gate call of hart h: after moment m a frame is pushed, and n is the first later moment with no more than m had
pub record IsGateCall (p : Schedule) (s : State) (h m n : ℕ) : Type 0 where
  pub begins : depth p s h m < depth p s h (m + 1)
  pub later : m < n
  pub inside : (k : ℕ) → m < k → k < n → depth p s h m < depth p s h k
  pub ends : depth p s h n ≤ depth p s h m

-- hart h has frames, domain and fifteen registers of moment m again at moment n, and is at x1 of moment m
pub record GivesBack (p : Schedule) (s : State) (h m n : ℕ) : Type 0 where
  pub frames : (hart_then p s h n).frames ≡ (hart_then p s h m).frames
  pub pc : (hart_then p s h n).pc ≡ reg (hart_then p s h m).regs 1
  pub domain : (hart_then p s h n).domain ≡ (hart_then p s h m).domain
  pub registers : saved (hart_then p s h n).regs ≡ saved (hart_then p s h m).regs

-- the turn that follows moment m is made, and hart h makes it
pub record IsTurnOf (p : Schedule) (s : State) (h m : ℕ) : Type 0 where
  pub goes_on : is_stopped p (at p s m) ≡ false
  pub own : hart_of p (at p s m).core ≡ h

-- hart h crosses in the turn that follows moment m
pub record Crosses (p : Schedule) (s : State) (h m : ℕ) : Type 0 where
  pub turn : IsTurnOf p s h m
  pub crossed : kind (at p s m) h ≡ T.Crossed

-- hart h leaves a call in the turn before moment n, by a return or by a fault
pub record Leaves (p : Schedule) (s : State) (h n : ℕ) : Type 0 where
  pub last : ℕ
  pub before : last + 1 ≡ n
  pub turn : IsTurnOf p s h last
  pub left : (kind (at p s last) h ≡ T.Returned) ⊎ (kind (at p s last) h ≡ T.Trapped)
