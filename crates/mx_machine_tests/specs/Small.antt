-- Small machines made by hand over 64 KiB of RAM.
use Rattle.std.specs.Prelude.{◌≡◌, ℕ, ◌+◌, ◌*◌, ◌%◌, ◌≤◌, false, List, [], ◌∷◌, length, All, replicate, slice_index}
use Rattle.std.specs.List.{AllByRecursion}
use Rattle.mx_words.specs.declared.perm.Span.{Span}
use Rattle.mx_words.specs.Limits.{most_harts}
use Rattle.mx_check.specs.declared.flight.Flight.{Flight}
use Rattle.mx_heap.specs.HeapState.{HeapState}
use Rattle.mx_table.specs.Tables.{IsRow}
use Rattle.mx_machine.specs.declared.starts.HartStart.{HartStart}
use Rattle.mx_machine.specs.declared.starts.HartState.{HartState}
use Rattle.mx_machine.specs.declared.starts.StackArea.{StackArea}
use Rattle.mx_machine.specs.declared.views.HartStatus.{HartStatus}
use Rattle.mx_machine.specs.declared.views.HartStatus.TheVariants as V
use Rattle.mx_machine.specs.Starts.{IsStack}

-- code of so many words from a word on, and a stack area of so many words for each hart after it, lie in RAM
pub record IsPlaced (first code stack words : ℕ) : Type 0 where
  pub some : 1 ≤ code
  pub inside : first + code ≤ 16000
  pub behind : 1 ≤ words → first + code ≤ stack
  pub within : stack + words * 4 ≤ 16384

-- a heap's area lies in RAM
abbrev pub HasArea : HeapState → Type 0
HasArea heap = heap.area.first + heap.area.count ≤ 16384

-- so many modules are laid out for so many harts: a row of permissions, a heap and a stack area for each
pub record AreLaid (count harts : ℕ) (rows : List (List Span)) (ram owners : List ℕ)
    (heaps : List HeapState) (stacks : List StackArea) : Type 0 where
  pub one_each : length rows ≡ count
  pub are_rows : All (IsRow 16384) rows
  pub bytes : length ram ≡ 65536
  pub words : length owners ≡ 16384
  pub one_heap : length heaps ≡ count
  pub heap_areas : AllByRecursion HasArea heaps
  pub one_area : length stacks ≡ count
  pub areas : AllByRecursion (IsStack 16384 harts) stacks

-- a hart starts in one of so many modules at a multiple of 4
pub record IsBegin (count : ℕ) (s : HartStart) : Type 0 where
  pub first : 1 ≤ s.domain
  pub last : s.domain ≤ count
  pub pc : s.pc % 4 ≡ 0

-- a hart may go on in one of so many modules
pub record IsLeft (count domain pc : ℕ) (regs : List ℕ) : Type 0 where
  pub first : 1 ≤ domain
  pub last : domain ≤ count
  pub aligned : pc % 4 ≡ 0
  pub x0 : slice_index regs 0 ≡ 0

-- the state of a hart without frames
abbrev pub left_state : HartStatus → ℕ → ℕ → List ℕ → HartState
left_state status domain pc regs =
    record { status = status; domain = domain; pc = pc; regs = regs; frames = [] }

-- the states of a waiting, a halted and a running hart
abbrev pub left_states : ℕ → ℕ → List ℕ → ℕ → ℕ → List ℕ → ℕ → ℕ → List ℕ → List HartState
left_states d0 pc0 regs0 d1 pc1 regs1 d2 pc2 regs2 =
    left_state V.Waiting d0 pc0 regs0 ∷ left_state V.Halted d1 pc1 regs1 ∷
    left_state V.Running d2 pc2 regs2 ∷ []

-- a call of hart 0 in flight that no hart has heard
abbrev pub unheard : ℕ → ℕ → Flight
unheard first count = record { hart = 0; first = first; count = count; heard = replicate most_harts false }
