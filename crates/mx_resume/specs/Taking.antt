-- What the code of a reader gives.
use Rattle.std.specs.Prelude.{◌≡◌, ℕ, Result, Ok, Err}
use Rattle.mx_snapshot.specs.Reader.{Taken, Took, Fails}
use Rattle.mx_resume.specs.declared.refused.SnapshotRefused.{SnapshotRefused}
use Rattle.mx_resume.specs.declared.refused.SnapshotRefused.TheVariants.{Fault, TablesFull, NoMemory}

-- a refusal tells place and number of the fault; or that memory ended before
abbrev pub Misses : {A : Type 0} → Taken A → SnapshotRefused → Type 0
Misses taken (Fault at number) = taken ≡ Fails at number
Misses taken (TablesFull need limit) = ⊥
Misses taken NoMemory = Unit {0}

-- what is taken, seen by `view`, and the place behind it; or why nothing is
abbrev pub IsTaken : {A B : Type 0} → (B → A) → Taken A → ℕ → Result B SnapshotRefused → Type 0
IsTaken view taken now (Ok b) = taken ≡ Took (view b) now
IsTaken view taken now (Err refused) = Misses taken refused

-- what stands for what is taken, and the place behind that; or why nothing is taken
abbrev pub TakesAs : {A B : Type 0} → (A → B → Type 0) → Taken A → ℕ →
    Result B SnapshotRefused → Type 0
TakesAs {A} stands taken now (Ok b) = (a : A) × (taken ≡ Took a now) × stands a b
TakesAs stands taken now (Err refused) = Misses taken refused
