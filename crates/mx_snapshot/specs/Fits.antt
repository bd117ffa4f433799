-- Which snapshots are valid: each field is in its range, and each item is by those before it.
-- The rules: docs/COMMANDS.md, "The snapshot".
use Rattle.std.specs.Prelude.{◌≡◌, ℕ, ◌-◌, ◌*◌, ◌^◌, ◌<◌, ◌≤◌, true, List, [], ◌∷◌, ◌++◌, length}
use Rattle.std.specs.List.{AllByRecursion}
use Rattle.mx_words.specs.FirstFit.{most_blocks}
use Rattle.mx_words.specs.Hearing.{most_harts}
use Rattle.mx_words.specs.Runs.{Run, most_owner_runs}
use Rattle.mx_words.specs.Limits.{is_buffer, most_quantum, most_module_name}
use Rattle.mx_table.specs.Tables.{IsLimit}
use Rattle.mx_manifest.specs.InRange.{IsBetween}
use Rattle.mx_model.specs.declared.values.Frame.{Frame}
use Rattle.mx_model.specs.declared.values.Gate.{Gate}
use Rattle.mx_model.specs.Gates.{most_frames, most_gates}
use Rattle.mx_model.specs.State.{most_modules}
use Rattle.mx_snapshot.specs.Rules.{has_place, is_area, is_free, is_heard, is_new_name, is_next_block, is_next_owner, is_next_run, is_pc}
use Rattle.mx_snapshot.specs.Rules.{is_ram, is_register}
use Rattle.mx_snapshot.specs.Stored.{Head, Stored, StoredHart, StoredModule}

-- bytes, and numbers of 32 bits
abbrev pub AreBytes : List ℕ → Type 0
AreBytes bytes = AllByRecursion (λ (byte : ℕ). byte < 2 ^ 8) bytes

abbrev pub AreWords : List ℕ → Type 0
AreWords ns = AllByRecursion (λ (n : ℕ). n < 2 ^ 32) ns

-- each item of a list fits by those before it
abbrev pub EachFits : {A : Type 0} → (List A → A → Type 0) → List A → List A → Type 0
EachFits fits before [] = Unit {0}
EachFits fits before (x ∷ xs) = fits before x × EachFits fits (before ++ x ∷ []) xs

pub record IsHead (h : Head) : Type 0 where
  pub words : is_ram h.words ≡ true
  pub limit : IsLimit h.limit
  pub lookaside : is_buffer h.lookaside ≡ true
  pub quantum : IsBetween 1 most_quantum h.quantum
  pub modules : IsBetween 1 most_modules h.modules
  pub harts : IsBetween 1 most_harts h.harts
  pub turns : h.turns ≤ 2 ^ 63 - 1

pub record IsStoredModule (h : Head) (before : List StoredModule) (m : StoredModule) : Type 0 where
  pub name_length : IsBetween 1 most_module_name (length m.name)
  pub name : is_new_name before m.name ≡ true
  pub heap : is_area h.words m.home.heap.first m.home.heap.count ≡ true
  pub stack : is_area h.words m.home.stack.first (m.home.stack.words * h.harts) ≡ true
  pub few_blocks : length m.home.blocks ≤ most_blocks
  pub blocks : EachFits (λ before b. is_next_block m.home.heap before b ≡ true) [] m.home.blocks
  pub some_runs : 1 ≤ length m.map
  pub map : EachFits (λ before r. is_next_run h.words (length m.map) before r ≡ true) [] m.map

-- a run of owner, of so many in all
pub record IsOwnerRun (h : Head) (runs : ℕ) (before : List (Run ℕ)) (r : Run ℕ) : Type 0 where
  pub count : has_place h.words runs before r.count ≡ true
  pub owner : is_next_owner h.modules before r.value ≡ true

pub record IsStoredGate (h : Head) (before : List Gate) (g : Gate) : Type 0 where
  pub domain : IsBetween 1 h.modules g.domain
  pub word : is_free h.words before g.domain g.word ≡ true
  pub target : IsBetween 1 h.modules g.target

pub record IsStoredFrame (h : Head) (f : Frame) : Type 0 where
  pub back : is_pc f.back ≡ true
  pub small : f.back < 2 ^ 32
  pub caller : IsBetween 1 h.modules f.caller
  pub count : length f.kept ≡ 15
  pub kept : AreWords f.kept

pub record IsStoredHart (h : Head) (before : List StoredHart) (x : StoredHart) : Type 0 where
  pub domain : IsBetween 1 h.modules x.domain
  pub pc : is_pc x.pc ≡ true
  pub small : x.pc < 2 ^ 32
  pub count : length x.regs ≡ 32
  pub words : AreWords x.regs
  pub regs : EachFits (λ others value. is_register x.status (length others) value ≡ true) [] x.regs
  pub few_frames : length x.frames ≤ most_frames
  pub frames : AllByRecursion (IsStoredFrame h) x.frames
  pub heard : is_heard h.harts (length before) x.status x.heard ≡ true

pub record IsStored (s : Stored) : Type 0 where
  pub head : IsHead s.head
  pub module_count : length s.modules ≡ s.head.modules
  pub modules : EachFits (IsStoredModule s.head) [] s.modules
  pub owner_runs : IsBetween 1 most_owner_runs (length s.owners)
  pub owners : EachFits (IsOwnerRun s.head (length s.owners)) [] s.owners
  pub few_gates : length s.gates ≤ most_gates
  pub gates : EachFits (IsStoredGate s.head) [] s.gates
  pub hart_count : length s.harts ≡ s.head.harts
  pub harts : EachFits (IsStoredHart s.head) [] s.harts
  pub ram_count : length s.ram ≡ 4 * s.head.words
  pub ram : AreBytes s.ram
