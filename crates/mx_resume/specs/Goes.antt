-- The machine that goes on from what is stored.
use Rattle.std.specs.Prelude.{◌≡◌, ℕ, ◌≤◌, Bool, All, List, Result, Ok, Err, IsFalse}
use Rattle.std.specs.Prelude.{map as list_map}
use Rattle.mx_words.specs.declared.perm.Perm.{Perm}
use Rattle.mx_words.specs.declared.perm.Span.{Span}
use Rattle.mx_words.specs.declared.tables.Kind.{Kind}
use Rattle.mx_words.specs.declared.tables.Need.{Need}
use Rattle.mx_words.specs.Limits.{most_harts, most_kept}
use Rattle.mx_words.specs.Need.{need, within}
use Rattle.mx_check.specs.declared.flight.Flight.{Flight}
use Rattle.mx_check.specs.Conditions.{IsResumable}
use Rattle.mx_heap.specs.HeapState.{HeapState}
use Rattle.mx_model.specs.declared.values.Gate.{Gate}
use Rattle.mx_model.specs.State.{Flat, flat}
use Rattle.mx_supervisor.specs.Parts.{Parts}
use Rattle.mx_machine.specs.declared.starts.HartState.{HartState}
use Rattle.mx_machine.specs.declared.starts.StackArea.{StackArea}
use Rattle.mx_snapshot.specs.Fits.{IsStored}
use Rattle.mx_snapshot.specs.Reader.{Taken, Took}
use Rattle.mx_snapshot.specs.Resumed.{state_of}
use Rattle.mx_snapshot.specs.Resuming.{dead_in, heap_in, parts_in, spans_in, stack_in, state_in}
use Rattle.mx_snapshot.specs.Stored.{Stored, StoredModule}
use Rattle.mx_resume.specs.declared.building.Held.{Held}
use Rattle.mx_resume.specs.declared.fields.Fields.{Fields}
use Rattle.mx_resume.specs.declared.harts.ResumingHarts.{ResumingHarts}
use Rattle.mx_resume.specs.declared.head.Head.{Head}
use Rattle.mx_resume.specs.declared.refused.SnapshotRefused.{SnapshotRefused}
use Rattle.mx_resume.specs.declared.refused.SnapshotRefused.TheVariants.{Fault, TablesFull, NoMemory}
use Rattle.mx_resume.specs.declared.resumed.Resumed.{Resumed}
use Rattle.mx_resume.specs.Parts.{AreFieldsOf, AreHartsOf, AreHeldOf, AreOwnersOf, head_seen}
use Rattle.mx_resume.specs.Snapshot.{IsRefusedBy, IsResumed, fitting}
use Rattle.mx_resume.specs.Taking.{Misses}

-- what some valid snapshot holds
pub record IsHeld (x : Held) : Type 0 where
  pub snapshot : Stored
  pub valid : IsStored snapshot
  pub holds : AreHeldOf snapshot x

pub record AreFields (x : Fields) : Type 0 where
  pub snapshot : Stored
  pub valid : IsStored snapshot
  pub holds : AreFieldsOf snapshot x

-- what is made of it where the stored maps fit, or the need that exceeds the limit; or memory ended
abbrev pub GoesOn : {A : Type 0} → (A → Flat) → Stored → Result A SnapshotRefused → Type 0
GoesOn meaning s (Ok machine) = (fitting s ≡ Ok s) × (meaning machine ≡ flat (state_of s))
GoesOn meaning s (Err refused) = IsRefusedBy (fitting s) refused

-- machine and plan
abbrev pub Resumes : Stored → Result Resumed SnapshotRefused → Type 0
Resumes s (Ok r) = (fitting s ≡ Ok s) × IsResumed s r
Resumes s (Err refused) = IsRefusedBy (fitting s) refused

-- the fields that stand for what is taken of a file; or why nothing is taken
abbrev pub IsRead : Taken Stored → Result Fields SnapshotRefused → Type 0
IsRead taken (Ok x) =
    (s : Stored) × (n : ℕ) × (taken ≡ Took s n) × IsStored s × AreFieldsOf s x
IsRead taken (Err refused) = Misses taken refused

-- why tables aren't built: the need of the maps, which exceeds the limit; or memory ended
abbrev pub IsOverfull : Kind → Need → List (List Perm) → SnapshotRefused → Type 0
IsOverfull kind limit maps (Fault at number) = ⊥
IsOverfull kind limit maps (TablesFull needed told) =
    (needed ≡ need kind maps) × (told ≡ limit) × IsFalse (within needed limit)
IsOverfull kind limit maps NoMemory = Unit {0}

-- flights with which a checker of so many harts may go on, in a RAM of so many words, with such a buffer
pub record MayFly (words buffer : ℕ) (h : Head) (flights : List Flight) : Type 0 where
  pub size : buffer ≤ most_kept
  pub few : h.harts ≤ most_harts
  pub each : All (IsResumable h.harts words) flights

-- parts that some valid snapshot gives
pub record AreParts (p : Parts) : Type 0 where
  pub snapshot : Stored
  pub valid : IsStored snapshot
  pub same : p ≡ parts_in snapshot

-- with what a machine goes on from a snapshot
pub record GoesFrom (s : Stored) (p : Parts) (states : List HartState) (stacks : List StackArea)
    (dead : List Bool) (turns : ℕ) : Type 0 where
  pub valid : IsStored s
  pub same_parts : p ≡ parts_in s
  pub same_states : states ≡ list_map state_in s.harts
  pub same_stacks : stacks ≡ list_map stack_in s.modules
  pub same_dead : dead ≡ dead_in s.modules
  pub same_turns : turns ≡ s.head.turns

pub record MayGo (p : Parts) (states : List HartState) (stacks : List StackArea)
    (dead : List Bool) (turns : ℕ) : Type 0 where
  pub snapshot : Stored
  pub from : GoesFrom snapshot p states stacks dead turns

-- of what a supervisor is joined that goes on from a snapshot
pub record GivesParts (s : Stored) (h : Head) (rows : List (List Span)) (harts : ResumingHarts)
    (ram owners : List ℕ) (gates : List Gate) (heaps : List HeapState) : Type 0 where
  pub valid : IsStored s
  pub same_head : head_seen h ≡ s.head
  pub same_rows : rows ≡ list_map (λ (m : StoredModule). spans_in 0 m.map) s.modules
  pub same_harts : AreHartsOf s.head.words (list_map heap_in s.modules) s.harts harts
  pub same_ram : ram ≡ s.ram
  pub same_owners : AreOwnersOf s.head.words s.owners owners
  pub same_gates : gates ≡ s.gates
  pub same_heaps : heaps ≡ list_map heap_in s.modules

pub record MayJoin (h : Head) (rows : List (List Span)) (harts : ResumingHarts) (ram owners : List ℕ)
    (gates : List Gate) (heaps : List HeapState) : Type 0 where
  pub snapshot : Stored
  pub gives : GivesParts snapshot h rows harts ram owners gates heaps

-- the parts that are joined of it where the stored maps fit, or the need that exceeds the limit; or memory ended
abbrev pub JoinsAs : {A : Type 0} → (A → Parts) → Stored → Result A SnapshotRefused → Type 0
JoinsAs parts s (Ok p) = (fitting s ≡ Ok s) × (parts p ≡ parts_in s)
JoinsAs parts s (Err refused) = IsRefusedBy (fitting s) refused
