-- The bytes of a snapshot, field by field. Numbers are little-endian, of 4 bytes each but for the turns, which have 8.
-- The rules: docs/COMMANDS.md, "The snapshot".
use Rattle.std.specs.Prelude.{ℕ, ◌+◌, ◌*◌, List, [], ◌∷◌, ◌++◌, length, flat_map}
use Rattle.std.specs.List.{concat}
use Rattle.mx_words.specs.declared.perm.Perm.{Perm}
use Rattle.mx_words.specs.declared.tables.Kind.{Kind}
use Rattle.mx_words.specs.declared.tables.Kind.TheVariants as K
use Rattle.mx_words.specs.Counting.{bit}
use Rattle.mx_words.specs.FirstFit.{Area}
use Rattle.mx_words.specs.Rights.{number}
use Rattle.mx_words.specs.Runs.{Run}
use Rattle.mx_model.specs.declared.values.Frame.{Frame}
use Rattle.mx_model.specs.declared.values.Gate.{Gate}
use Rattle.mx_model.specs.State.{Module}
use Rattle.mx_image.specs.Image.{little_endian}
use Rattle.mx_machine.specs.declared.views.HartStatus.{HartStatus}
use Rattle.mx_machine.specs.declared.views.HartStatus.TheVariants as V
use Rattle.mx_snapshot.specs.Stored.{Head, Stored, StoredHart, StoredModule}

-- the first eight bytes: MXSN, and the version 1
abbrev pub sign : List ℕ
sign = 0x4D ∷ 0x58 ∷ 0x53 ∷ 0x4E ∷ 1 ∷ 0 ∷ 0 ∷ 0 ∷ []

-- numbers of 4 bytes each
abbrev pub numbers : List ℕ → List ℕ
numbers ns = flat_map (little_endian 4) ns

-- how many there are, and then each
unfoldable pub counted : {A : Type 0} → (A → List ℕ) → List A → List ℕ
counted spelled xs = concat (numbers (length xs ∷ []) ∷ flat_map spelled xs ∷ [])

abbrev pub kind_number : Kind → ℕ
kind_number K.Segments = 0
kind_number K.Multilevel = 1
kind_number K.Packed = 2

abbrev pub status_number : HartStatus → ℕ
status_number V.Running = 0
status_number V.Waiting = 1
status_number V.Halted = 2

unfoldable pub head_bytes : Head → List ℕ
head_bytes h =
    concat (sign
    ∷ numbers (h.words ∷ kind_number h.kind ∷ h.limit.upper ∷ h.limit.leaf ∷ h.limit.spill ∷ [])
    ∷ numbers (h.lookaside ∷ h.quantum ∷ h.modules ∷ h.harts ∷ []) ∷ little_endian 8 h.turns ∷ [])

-- a block: its first word and how many words it has
unfoldable pub block_bytes : Area → List ℕ
block_bytes b = numbers (b.first ∷ b.count ∷ [])

-- a run of permission: 4 times its count and the permission's number
unfoldable pub map_run_bytes : Run Perm → List ℕ
map_run_bytes r = numbers ((4 * r.count + number r.value) ∷ [])

-- a name: how many bytes it has, and they
unfoldable pub name_bytes : List ℕ → List ℕ
name_bytes name = concat (numbers (length name ∷ []) ∷ name ∷ [])

-- a module's heap area and its stack area, and whether it is killing and whether it is dead
unfoldable pub area_bytes : Module → List ℕ
area_bytes m = numbers (m.heap.first ∷ m.heap.count ∷ m.stack.first ∷ m.stack.words ∷ [])

unfoldable pub flag_bytes : Module → List ℕ
flag_bytes m = numbers (bit m.kills ∷ bit m.dead ∷ [])

-- a module: its name, areas and flags, its live blocks by address, and the runs of its map
unfoldable pub module_bytes : StoredModule → List ℕ
module_bytes m =
    concat (name_bytes m.name ∷ area_bytes m.home ∷ flag_bytes m.home
    ∷ counted block_bytes m.home.blocks ∷ counted map_run_bytes m.map ∷ [])

-- a run of owner: its count and the owner
unfoldable pub owner_run_bytes : Run ℕ → List ℕ
owner_run_bytes r = numbers (r.count ∷ r.value ∷ [])

unfoldable pub gate_bytes : Gate → List ℕ
gate_bytes g = numbers (g.domain ∷ g.word ∷ g.target ∷ [])

-- a frame: its return address, its caller, and its fifteen registers
unfoldable pub frame_bytes : Frame → List ℕ
frame_bytes f = concat (numbers (f.back ∷ f.caller ∷ []) ∷ numbers f.kept ∷ [])

-- a hart's status, domain, pc and registers
unfoldable pub state_bytes : HartStatus → ℕ → ℕ → List ℕ → List ℕ
state_bytes status domain pc regs =
    concat (numbers (status_number status ∷ domain ∷ pc ∷ []) ∷ numbers regs ∷ [])

-- a hart: these, its frames from the bottom, and who has heard its call
unfoldable pub hart_bytes : StoredHart → List ℕ
hart_bytes h =
    concat (state_bytes h.status h.domain h.pc h.regs ∷ counted frame_bytes h.frames
    ∷ numbers (h.heard ∷ []) ∷ [])

-- all fields before RAM's bytes
unfoldable pub front_bytes : Stored → List ℕ
front_bytes s =
    concat (head_bytes s.head ∷ flat_map module_bytes s.modules ∷ counted owner_run_bytes s.owners
    ∷ counted gate_bytes s.gates ∷ flat_map hart_bytes s.harts ∷ [])

-- the bytes of what a snapshot stores
unfoldable pub spelling : Stored → List ℕ
spelling s = front_bytes s ++ s.ram
