-- Of what sort a running hart's turn is, for each row of its border.
-- The rules: docs/MACHINE.md, "Agreement", "Gates" and "Faults".
use Rattle.std.specs.Prelude.{◌≡◌, ◌≢◌, ℕ, ◌-◌, ◌/◌, ◌%◌, ◌≤◌, true, List, [], ◌∷◌, ◌++◌, length, Some}
use Rattle.mx_words.specs.Ranges.{ram_base}
use Rattle.mx_model.specs.declared.values.Frame.{Frame}
use Rattle.mx_model.specs.declared.values.TurnKind.TheVariants as T
use Rattle.mx_model.specs.Agreement.{Border, Trap, AtGate, Back, Call, Nothing, target_at}
use Rattle.mx_model.specs.Gates.{most_frames}
use Rattle.mx_model.specs.Reads.{Reads}
use Rattle.mx_model.specs.State.{Core, hart_at, module_at}
use Rattle.mx_laws.specs.After.{core_after, domain_at, frames_at, kind_of}
use Rattle.mx_runs.specs.Denials.{TrapsWith, register_of}

-- the causes of the faults at gates
abbrev pub IsGateCause : ℕ → Type 0
IsGateCause cause = (16 ≤ cause) × (cause ≤ 19)

-- the pc of hart h
abbrev pub pc_of : Core → ℕ → ℕ
pc_of c h = (hart_at c h).pc

-- a turn at a call gate to a target: x1 is misaligned, a dead target sends the hart back, the cross stack is full, or it
-- crosses into the target
pub data PassesGate (r : Reads) (c : Core) (h target : ℕ) : Type 0 where
  Crooked : register_of c h 1 % 4 ≢ 0 → TrapsWith r c h 19 (register_of c h 1) →
      PassesGate r c h target
  SentBack : (module_at c target).dead ≡ true → kind_of r c h ≡ T.Returned →
      frames_at (core_after r c h) h ≡ frames_at c h → PassesGate r c h target
  Full : most_frames ≤ length (frames_at c h) → TrapsWith r c h 16 (pc_of c h) →
      PassesGate r c h target
  Crosses : kind_of r c h ≡ T.Crossed → domain_at (core_after r c h) h ≡ target →
      PassesGate r c h target

-- the gate at the word of pc leads to the target, x1 is as said, and the turn is one at a call gate
pub record IsAtGate (r : Reads) (c : Core) (h word target x1 : ℕ) : Type 0 where
  pub place : (pc_of c h - ram_base) / 4 ≡ word
  pub leads : target_at c (domain_at c h) word ≡ Some target
  pub address : register_of c h 1 ≡ x1
  pub passes : PassesGate r c h target

-- a turn at a return gate to a target: there is no frame, the top one leads elsewhere, or it leads there and is given
-- up
pub data ReturnsTo (r : Reads) (c : Core) (h target : ℕ) : Type 0 where
  NoFrame : frames_at c h ≡ [] → TrapsWith r c h 18 target → ReturnsTo r c h target
  Elsewhere : (below : List Frame) (f : Frame) → frames_at c h ≡ below ++ f ∷ [] →
      f.back ≢ target → TrapsWith r c h 17 target → ReturnsTo r c h target
  OverFrame : (f : Frame) → kind_of r c h ≡ T.Returned →
      frames_at c h ≡ frames_at (core_after r c h) h ++ f ∷ [] → f.back ≡ target →
      ReturnsTo r c h target

-- the turn makes a call or announces it, with that number and these arguments
pub record IsCalling (r : Reads) (c : Core) (h number a0 a1 a2 a3 : ℕ) : Type 0 where
  pub x17 : register_of c h 17 ≡ number
  pub x10 : register_of c h 10 ≡ a0
  pub x11 : register_of c h 11 ≡ a1
  pub x12 : register_of c h 12 ≡ a2
  pub x13 : register_of c h 13 ≡ a3
  pub kind : kind_of r c h ≡ T.Called

-- the turn of hart h is of the sort that a border says
abbrev pub IsOfRow : Reads → Core → ℕ → Border → Type 0
IsOfRow r c h (Trap cause value) = TrapsWith r c h cause value × (IsGateCause cause → ⊥)
IsOfRow r c h (AtGate word target x1) = IsAtGate r c h word target x1
IsOfRow r c h (Back pc target) = (pc_of c h ≡ pc) × ReturnsTo r c h target
IsOfRow r c h (Call number a0 a1 a2 a3) = IsCalling r c h number a0 a1 a2 a3
IsOfRow r c h Nothing = kind_of r c h ≡ T.Ran
