-- Valid states and valid flat states: lengths, ranges and alignment, which every turn keeps.
use Rattle.std.specs.Prelude.{◌≡◌, ◌≢◌, ℕ, List, ◌+◌, ◌*◌, ◌%◌, ◌^◌, ◌<◌, ◌≤◌, Bool, true, length, slice_index}
use Rattle.std.specs.List.{AllByRecursion}
use Rattle.mx_words.specs.declared.perm.Perm.{Perm}
use Rattle.mx_words.specs.Announced.{is_announced}
use Rattle.mx_words.specs.Caches.{Cache, place_count}
use Rattle.mx_words.specs.FirstFit.{AreApart, most_blocks}
use Rattle.mx_words.specs.Hearing.{is_in, most_harts}
use Rattle.mx_words.specs.Ranges.{most_words}
use Rattle.mx_words.specs.Runs.{owner_runs, most_owner_runs}
use Rattle.mx_model.specs.declared.values.Call.{Call}
use Rattle.mx_model.specs.declared.values.Frame.{Frame}
use Rattle.mx_model.specs.declared.values.Gate.{Gate}
use Rattle.mx_model.specs.Checks.{arg}
use Rattle.mx_model.specs.Turn.{call_of}
use Rattle.mx_model.specs.Gates.{AreSingle, most_gates, most_frames}
use Rattle.mx_model.specs.State.{Core, Flat, Hart, Module, Status, Running, Waiting, Halted, hart_at, most_modules}

-- the number of a domain of a machine with so many modules
pub record IsModule (modules d : ℕ) : Type 0 where
  pub first : 1 ≤ d
  pub last : d ≤ modules

-- an address of an instruction
pub record IsPc (pc : ℕ) : Type 0 where
  pub aligned : pc % 4 ≡ 0
  pub small : pc < 2 ^ 32

-- 32 numbers of 32 bits, of which the first is zero
pub record IsRegisters (regs : List ℕ) : Type 0 where
  pub count : length regs ≡ 32
  pub small : (r : ℕ) → slice_index regs r < 2 ^ 32
  pub x0 : slice_index regs 0 ≡ 0

-- a frame: a return address, a caller, and fifteen saved registers
pub record IsFrame (modules : ℕ) (f : Frame) : Type 0 where
  pub back : IsPc f.back
  pub caller : IsModule modules f.caller
  pub count : length f.kept ≡ 15
  pub small : (i : ℕ) → slice_index f.kept i < 2 ^ 32

-- a call of hart h
pub record IsCall (modules h : ℕ) (call : Call) : Type 0 where
  pub hart : call.hart ≡ h
  pub domain : IsModule modules call.domain
  pub small : (i : ℕ) → arg call i < 2 ^ 32

-- the call on which hart h waits: it is that of its registers, and it is announced; the set of those who have heard it has a place for each
-- hart that there may be, and in it are only other harts that there are
pub record IsFlight (harts h : ℕ) (hart : Hart) (call : Call) (heard : List Bool) : Type 0 where
  pub own : call ≡ call_of h hart
  pub announced : is_announced call.number ≡ true
  pub places : length heard ≡ most_harts
  pub others : (i : ℕ) → is_in heard i ≡ true → (i < harts) × (i ≢ h)

abbrev pub IsStatus : ℕ → ℕ → Hart → Status → Type 0
IsStatus harts h hart Running = Unit {0}
IsStatus harts h hart (Waiting call heard) = IsFlight harts h hart call heard
IsStatus harts h hart (Halted code) = Unit {0}

-- hart h of so many harts
pub record IsHart (modules harts h : ℕ) (hart : Hart) : Type 0 where
  pub regs : IsRegisters hart.regs
  pub pc : IsPc hart.pc
  pub domain : IsModule modules hart.domain
  pub few_frames : length hart.frames ≤ most_frames
  pub frames : AllByRecursion (IsFrame modules) hart.frames
  pub status : IsStatus harts h hart hart.status

-- a gate for a word of RAM
pub record IsGate (modules size : ℕ) (g : Gate) : Type 0 where
  pub domain : IsModule modules g.domain
  pub target : IsModule modules g.target
  pub word : g.word < size

-- a module whose areas lie in RAM, one of no words at word 0, and whose blocks lie apart in its heap area
pub record IsHome (size harts : ℕ) (m : Module) : Type 0 where
  pub heap : m.heap.first + m.heap.count ≤ size
  pub blocks : AreApart m.heap.first (m.heap.first + m.heap.count) m.blocks
  pub stack : m.stack.first + m.stack.words * harts ≤ size
  pub few_blocks : length m.blocks ≤ most_blocks
  pub no_heap : m.heap.count ≡ 0 → m.heap.first ≡ 0
  pub no_stack : m.stack.words ≡ 0 → m.stack.first ≡ 0

-- a hart's caches: 32 places, at most so many kept spans, and counts of 64 bits
pub record IsCache (most : ℕ) (c : Cache) : Type 0 where
  pub places : length c.places ≡ place_count
  pub few_kept : length c.kept ≤ most
  pub sidecar : c.sidecar < 2 ^ 64
  pub lookaside : c.lookaside < 2 ^ 64
  pub walks : c.walks < 2 ^ 64

-- all but rights and owners
pub record IsValid (c : Core) : Type 0 where
  pub some_words : 1 ≤ c.size
  pub few_words : c.size ≤ most_words
  pub ram_count : length c.ram ≡ 4 * c.size
  pub ram_bytes : (i : ℕ) → slice_index c.ram i < 256
  pub some_modules : 1 ≤ length c.modules
  pub few_modules : length c.modules ≤ most_modules
  pub modules : AllByRecursion (IsHome c.size (length c.harts)) c.modules
  pub some_harts : 1 ≤ length c.harts
  pub few_harts : length c.harts ≤ most_harts
  pub harts : (h : ℕ) → h < length c.harts →
      IsHart (length c.modules) (length c.harts) h (hart_at c h)
  pub caches : length c.caches ≡ length c.harts
  pub few_gates : length c.gates ≤ most_gates
  pub gates : AllByRecursion (IsGate (length c.modules) c.size) c.gates
  pub one_gate : AreSingle c.gates

-- a valid flat state: a map for each module and an owner for each word, a module or the supervisor, in few runs; and valid caches
pub record IsFlat (f : Flat) : Type 0 where
  pub valid : IsValid f.core
  pub maps : length f.maps ≡ length f.core.modules
  pub whole_maps : AllByRecursion (λ (m : List Perm). length m ≡ f.core.size) f.maps
  pub owners : length f.owners ≡ f.core.size
  pub small_owners : (i : ℕ) → slice_index f.owners i ≤ length f.core.modules
  pub few_runs : owner_runs f.owners ≤ most_owner_runs
  pub caches : AllByRecursion (IsCache f.core.buffer) f.core.caches
