-- What is stored in the bytes of a snapshot, field by field in the order of the file, or the first fault. A rule over several fields
-- is judged at the last of them.
-- The faults: docs/COMMANDS.md, "The snapshot".
use Rattle.std.specs.Prelude.{ℕ, ◌-◌, ◌*◌, ◌/◌, ◌%◌, ◌^◌, Bool, nat_lt, ◌==◌, List, [], length, if◌then◌else◌, unwrap_or}
use Rattle.std.specs.Str.{bytes_eq}
use Rattle.mx_words.specs.declared.perm.Perm.{Perm}
use Rattle.mx_words.specs.declared.perm.Perm.TheVariants as P
use Rattle.mx_words.specs.declared.tables.Kind.{Kind}
use Rattle.mx_words.specs.declared.tables.Kind.TheVariants as K
use Rattle.mx_words.specs.FirstFit.{Area, most_blocks}
use Rattle.mx_words.specs.Hearing.{most_harts}
use Rattle.mx_words.specs.Rights.{from_number}
use Rattle.mx_words.specs.Runs.{Run, most_owner_runs}
use Rattle.mx_words.specs.Limits.{most_upper, most_leaf, most_spill, most_quantum, most_snapshot_bytes, is_buffer}
use Rattle.mx_manifest.specs.Forms.{is_within}
use Rattle.mx_model.specs.declared.values.Frame.{Frame}
use Rattle.mx_model.specs.declared.values.Gate.{Gate}
use Rattle.mx_model.specs.Gates.{most_frames, most_gates}
use Rattle.mx_model.specs.State.{most_modules}
use Rattle.mx_machine.specs.declared.views.HartStatus.{HartStatus}
use Rattle.mx_machine.specs.declared.views.HartStatus.TheVariants as V
use Rattle.mx_snapshot.specs.Reader.{Taken, Took, Fails, Reader, ◌>>=◌, done, list_of, meant, number, number_of, piece, such, such_or}
use Rattle.mx_snapshot.specs.Rules.{has_place, is_area, is_free, is_heard, is_new_name, is_next_block, is_next_owner, is_next_run, is_pc}
use Rattle.mx_snapshot.specs.Rules.{is_ram, is_register}
use Rattle.mx_snapshot.specs.Spelling.{sign}
use Rattle.mx_snapshot.specs.Stored.{Head, Stored, StoredHart, StoredModule}

-- the kind of tables, the status and the permission that have a number, and the run of permission
abbrev pub kind_by : ℕ → Kind
kind_by n = if n == 0 then K.Segments else if n == 1 then K.Multilevel else K.Packed

abbrev pub status_by : ℕ → HartStatus
status_by n = if n == 0 then V.Running else if n == 1 then V.Waiting else V.Halted

abbrev pub perm_by : ℕ → Perm
perm_by n = unwrap_or (from_number n) P.None

abbrev pub run_by : ℕ → Run Perm
run_by n = record { count = n / 4; value = perm_by (n % 4) }

-- a number from low to high, and 0 or 1
abbrev pub between : ℕ → ℕ → Reader ℕ
between low high = such (is_within low high) number

abbrev pub flag_in : Reader Bool
flag_in = meant (λ n. n == 1) (between 0 1)

unfoldable pub head_in : Reader Head
head_in = do
  first ← such_or 3 (bytes_eq sign) (piece 8)
  words ← such is_ram number
  kind ← meant kind_by (between 0 2)
  upper ← between 0 most_upper
  leaf ← between 0 most_leaf
  spill ← between 0 most_spill
  lookaside ← such is_buffer number
  quantum ← between 1 most_quantum
  modules ← between 1 most_modules
  harts ← between 1 most_harts
  turns ← such (is_within 0 (2 ^ 63 - 1)) (number_of 8)
  done (record {
    words = words;
    kind = kind;
    limit = record { upper = upper; leaf = leaf; spill = spill };
    lookaside = lookaside;
    quantum = quantum;
    modules = modules;
    harts = harts;
    turns = turns;
  })

unfoldable pub block_in : Area → List Area → Reader Area
block_in heap before = do
  first ← number
  count ← such (λ n. is_next_block heap before (record { first = first; count = n })) number
  done (record { first = first; count = count })

unfoldable pub map_run_in : Head → ℕ → List (Run Perm) → Reader (Run Perm)
map_run_in h runs before = such (is_next_run h.words runs before) (meant run_by number)

unfoldable pub module_in : Head → List StoredModule → Reader StoredModule
module_in h before = do
  size ← between 1 32
  name ← such (is_new_name before) (piece size)
  heap_first ← number
  heap_count ← such (is_area h.words heap_first) number
  stack_first ← number
  stack_words ← such (λ n. is_area h.words stack_first (n * h.harts)) number
  kills ← flag_in
  dead ← flag_in
  count ← between 0 most_blocks
  blocks ← list_of count (block_in (record { first = heap_first; count = heap_count })) []
  runs ← such (nat_lt 0) number
  map ← list_of runs (map_run_in h runs) []
  done (record {
    name = name;
    home = record {
      heap = record { first = heap_first; count = heap_count };
      blocks = blocks;
      stack = record { first = stack_first; words = stack_words };
      kills = kills;
      dead = dead;
    };
    map = map;
  })

unfoldable pub owner_run_in : Head → ℕ → List (Run ℕ) → Reader (Run ℕ)
owner_run_in h runs before = do
  count ← such (has_place h.words runs before) number
  owner ← such (is_next_owner h.modules before) number
  done (record { count = count; value = owner })

unfoldable pub gate_in : Head → List Gate → Reader Gate
gate_in h before = do
  domain ← between 1 h.modules
  word ← such (is_free h.words before domain) number
  target ← between 1 h.modules
  done (record { domain = domain; word = word; target = target })

unfoldable pub frame_in : Head → List Frame → Reader Frame
frame_in h before = do
  back ← such is_pc number
  caller ← between 1 h.modules
  kept ← list_of 15 (λ others. number) []
  done (record { back = back; caller = caller; kept = kept })

-- the next hart: as many as there are before it are below it
unfoldable pub hart_in : Head → List StoredHart → Reader StoredHart
hart_in h before = do
  status ← meant status_by (between 0 2)
  domain ← between 1 h.modules
  pc ← such is_pc number
  regs ← list_of 32 (λ others. such (is_register status (length others)) number) []
  count ← between 0 most_frames
  frames ← list_of count (frame_in h) []
  heard ← such (is_heard h.harts (length before) status) number
  done (record {
    status = status;
    domain = domain;
    pc = pc;
    regs = regs;
    frames = frames;
    heard = heard;
  })

-- all fields
unfoldable pub fields_in : Reader Stored
fields_in = do
  h ← head_in
  modules ← list_of h.modules (module_in h) []
  runs ← between 1 most_owner_runs
  owners ← list_of runs (owner_run_in h runs) []
  count ← between 0 most_gates
  gates ← list_of count (gate_in h) []
  harts ← list_of h.harts (hart_in h) []
  ram ← piece (4 * h.words)
  done (record {
    head = h;
    modules = modules;
    owners = owners;
    gates = gates;
    harts = harts;
    ram = ram;
  })

-- nothing follows the last field; else the first byte after it has fault 5
abbrev pub to_the_end : {A : Type 0} → List ℕ → Taken A → Taken A
to_the_end bytes (Took a after) =
    if nat_lt after (length bytes) then Fails after 5 else Took a after
to_the_end bytes (Fails at fault) = Fails at fault

-- what is stored in the bytes of a file; one of more bytes has fault 1 at its first
unfoldable pub stored_in : List ℕ → Taken Stored
stored_in bytes =
    if nat_lt most_snapshot_bytes (length bytes) then Fails 0 1 else to_the_end bytes (fields_in bytes 0)
