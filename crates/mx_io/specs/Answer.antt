-- What a store answers to its calls, and what a step of a store means.
-- The rules: docs/COMMANDS.md, "What is judged first".
use Rattle.std.specs.Prelude.{◌≡◌, ℕ, ◌^◌, ◌<◌, ◌≤◌, ◌↔◌, IsTrue, List, [], ◌∷◌, length, take, drop, Option, Some, None, IfSome, option_map}
use Rattle.std.specs.Prelude.{⊤}
use Rattle.std.specs.FinMap.{get}
use Rattle.mx_io.specs.Count.{Rose}
use Rattle.mx_io.specs.Store.{FileMap, StoreState, file_bytes}

-- the size that a name was given: the call failed, there is no such file, or so many bytes;
-- or what a name gave from a place on into a slice of so much room: the call failed, or these bytes
pub data Answer : Type 0 where
  Sized : List ℕ → Option (Option ℕ) → Answer
  Gave : List ℕ → ℕ → ℕ → Option (List ℕ) → Answer

-- the call succeeded
abbrev pub HasSucceeded : Answer → Type 0
HasSucceeded (Sized name None) = ⊥
HasSucceeded (Sized name (Some size)) = ⊤
HasSucceeded (Gave name at room None) = ⊥
HasSucceeded (Gave name at room (Some bytes)) = ⊤

-- bytes of a file from a place on for so much room: none for a slice with room exactly at its end
pub record IsPart (file : List ℕ) (at room : ℕ) (part : List ℕ) : Type 0 where
  pub bytes : part ≡ take (length part) (drop at file)
  pub end : 0 < room → (length part ≡ 0) ↔ (length file ≤ at)

-- the answer is that of these files, where the call succeeded
abbrev pub IsOf : FileMap → Answer → Type 0
IsOf files (Sized name None) = ⊤
IsOf files (Sized name (Some size)) = size ≡ option_map length (get files name)
IsOf files (Gave name at room None) = ⊤
IsOf files (Gave name at room (Some bytes)) = IsPart (file_bytes files name) at room bytes

-- a step of a store: its files stay, its count never falls, and stays where the call succeeded, the call failed only where the count rose
-- and success was not
-- sure, and the answer is that of the files where they are told
pub record Tells (before : StoreState) (answer : Answer) (now : StoreState) : Type 0 where
  pub files : now.told ≡ before.told
  pub later : before.faults ≤ now.faults
  pub counted : now.faults < 2 ^ 64
  pub kept : HasSucceeded answer → now.faults ≡ before.faults
  pub failed : (HasSucceeded answer → ⊥) → Rose before.faults now.faults
  pub sure : IsTrue before.sure →
      HasSucceeded answer × (now.faults ≡ before.faults) × IsTrue now.sure
  pub told : IfSome before.told (λ files. IsOf files answer)

-- the step of a store with nothing more to say than its state
abbrev pub tells_by : {S : Type 0} → (S → StoreState) → S → Answer → S → Type 0
tells_by state s answer t = Tells (state s) answer (state t)

-- these answers, one after another, lead from one moment of a store to another
abbrev pub Talks : {S : Type 0} → (S → Answer → S → Type 0) → S → List Answer → S → Type 0
Talks gives s [] t = t ≡ s
Talks {S} gives s (answer ∷ more) t = (m : S) × gives s answer m × Talks gives m more t
