-- What is spelled is read: the fields of a snapshot.
use Rattle.std.proofs.Common.{◌≡◌, ℕ, ◌+◌, ◌*◌, ◌^◌, ◌<◌, ◌≤◌, Bool, true, ◌&&◌, nat_lt, nat_le, List, [], ◌∷◌, ◌++◌, length, refl, sym}
use Rattle.std.proofs.Common.{subst, arith, append_assoc, lt-ltb, leb-true, ltb-true}
use Rattle.std.specs.Prelude.{flat_map}
use Rattle.std.proofs.lemmas.Bool.{and_parts}
use Rattle.std.proofs.lemmas.List.{append-nil}
use Rattle.mx_words.specs.declared.perm.Perm.{Perm}
use Rattle.mx_words.specs.Counting.{bit}
use Rattle.mx_words.specs.FirstFit.{Area, most_blocks}
use Rattle.mx_words.specs.Rights.{number as perm_number}
use Rattle.mx_words.specs.Runs.{Run, most_owner_runs}
use Rattle.mx_image.specs.Image.{little_endian}
use Rattle.mx_manifest.specs.InRange.{IsBetween}
use Rattle.mx_model.specs.declared.values.Frame.{Frame}
use Rattle.mx_model.specs.declared.values.Gate.{Gate}
use Rattle.mx_model.specs.Gates.{most_frames, most_gates}
use Rattle.mx_model.specs.State.{most_modules}
use Rattle.mx_snapshot.proofs.CodecBounds.{range_within, from_zero, small_words, small_buffer, small_area, each_part, small_place, few_runs}
use Rattle.mx_snapshot.proofs.CodecBounds.{kind_small, kind_again, status_small, status_again, bit_small, bit_again, perm_small, run_again}
use Rattle.mx_snapshot.proofs.CodecBounds.{heard_small, each_of, each_both}
use Rattle.mx_snapshot.proofs.CodecParts.{Reads, reads_done, reads_next, reads_such, reads_meant, reads_piece, reads_four, reads_eight}
use Rattle.mx_snapshot.proofs.CodecParts.{reads_list}
use Rattle.mx_snapshot.specs.Fields.{between, block_in, fields_in, flag_in, frame_in, gate_in, hart_in, head_in, map_run_in, module_in}
use Rattle.mx_snapshot.specs.Fields.{owner_run_in}
use Rattle.mx_snapshot.specs.Fits.{IsHead, IsOwnerRun, IsStored, IsStoredFrame, IsStoredGate, IsStoredHart, IsStoredModule}
use Rattle.mx_snapshot.specs.Reader.{number, such}
use Rattle.mx_snapshot.specs.Rules.{behind, has_place, is_heard, is_next_block, is_next_run, is_pc, is_register}
use Rattle.mx_snapshot.specs.Spelling.{area_bytes, block_bytes, counted, flag_bytes, frame_bytes, front_bytes, gate_bytes, hart_bytes}
use Rattle.mx_snapshot.specs.Spelling.{head_bytes, kind_number, map_run_bytes, module_bytes, name_bytes, numbers, owner_run_bytes, sign}
use Rattle.mx_snapshot.specs.Spelling.{spelling, state_bytes, status_number}
use Rattle.mx_snapshot.specs.Stored.{Head, Stored, StoredHart, StoredModule}

reads_between : (low high n : ℕ) → high < 2 ^ 32 → IsBetween low high n → Reads (between low high) (little_endian 4 n) n
reads_between low high n lt b = reads_such _ _ (reads_four n (omega (arith, b.1, lt))) (range_within low high n b)

reads_flag : (b : Bool) → Reads flag_in (little_endian 4 (bit b)) b
reads_flag b = reads_meant _ (reads_between 0 1 (bit b) (omega arith) (bit_small b)) (bit_again b)

pub head-reads : (h : Head) → IsHead h → Reads head_in (head_bytes h) h
unfolding head_in head_bytes
head-reads h f =
    reads_next _ (reads_such _ _ (reads_piece sign 8 refl) refl) refl
    (reads_next _ (reads_such _ _ (reads_four h.words (omega (arith, small_words h f))) f.words) refl
    (reads_next _ (reads_meant _ (reads_between 0 2 (kind_number h.kind) (omega arith) (kind_small h.kind)) (kind_again h.kind)) refl
    (reads_next _ (reads_between 0 4096 h.limit.upper (omega arith) (from_zero _ _ f.limit.upper)) refl
    (reads_next _ (reads_between 0 262144 h.limit.leaf (omega arith) (from_zero _ _ f.limit.leaf)) refl
    (reads_next _ (reads_between 0 1048576 h.limit.spill (omega arith) (from_zero _ _ f.limit.spill)) refl
    (reads_next _ (reads_such _ _ (reads_four h.lookaside (omega (arith, small_buffer h.lookaside f.lookaside))) f.lookaside) refl
    (reads_next _ (reads_between 1 1000000 h.quantum (omega arith) f.quantum) refl
    (reads_next _ (reads_between 1 most_modules h.modules (omega arith) f.modules) refl
    (reads_next _ (reads_between 1 4 h.harts (omega arith) f.harts) refl
    (reads_next _ (reads_such _ _ (reads_eight h.turns f.turns) (range_within 0 9223372036854775807 h.turns (from_zero _ _ f.turns))) refl
    (reads_done h)))))))))))

block-reads : (words : ℕ) → words ≤ 16777216 → (heap : Area) → heap.first + heap.count ≤ words → (before : List Area) (b : Area)
    → is_next_block heap before b ≡ true → Reads (block_in heap before) (block_bytes b) b
unfolding block_in block_bytes
block-reads words small heap lies before b e =
    let p = and_parts (nat_lt 0 b.count && nat_le (behind heap before) b.first) (nat_le (b.first + b.count) (heap.first + heap.count)) e in
    let end = leb-true (b.first + b.count) (heap.first + heap.count) p.1 in
    reads_next _ (reads_four b.first (omega (arith, end, lies, small))) refl
    (reads_next _ (reads_such _ _ (reads_four b.count (omega (arith, end, lies, small))) e) refl
    (reads_done b))

map-run-reads : (h : Head) → h.words ≤ 16777216 → (runs : ℕ) (before : List (Run Perm)) (r : Run Perm)
    → is_next_run h.words runs before r ≡ true → Reads (map_run_in h runs before) (map_run_bytes r) r
unfolding map_run_in map_run_bytes
map-run-reads h small runs before r e =
    let p = small_place h.words runs before r.count (and_parts (has_place h.words runs before r.count) _ e).0 in
    reads_such _ _ (reads_meant _ (reads_four (4 * r.count + perm_number r.value) (omega (arith, p.1, small, perm_small r.value)))
    (run_again r)) e

-- a module's bytes field by field
abbrev pub flat_module : ℕ → ℕ → ℕ → StoredModule → List ℕ
flat_module size count runs m =
    little_endian 4 size ++ (m.name ++ (little_endian 4 m.home.heap.first ++ (little_endian 4 m.home.heap.count
    ++ (little_endian 4 m.home.stack.first ++ (little_endian 4 m.home.stack.words
    ++ (little_endian 4 (bit m.home.kills) ++ (little_endian 4 (bit m.home.dead)
    ++ (little_endian 4 count ++ (flat_map block_bytes m.home.blocks
    ++ (little_endian 4 runs ++ (flat_map map_run_bytes m.map ++ [])))))))))))

module_joined : (size name areas flags count blocks runs maps : List ℕ) →
    (size ++ (name ++ [])) ++ (areas ++ (flags ++ ((count ++ (blocks ++ [])) ++ ((runs ++ (maps ++ [])) ++ []))))
    ≡ size ++ (name ++ (areas ++ (flags ++ (count ++ (blocks ++ (runs ++ (maps ++ [])))))))
module_joined size name areas flags count blocks runs maps = simp (append_assoc, append-nil)

pub module-flat : (m : StoredModule) → module_bytes m ≡ flat_module (length m.name) (length m.home.blocks) (length m.map) m
unfolding module_bytes name_bytes area_bytes flag_bytes counted
module-flat m =
    search (arith, module_joined)

module-reads : (h : Head) → IsHead h → (before : List StoredModule) (m : StoredModule) → IsStoredModule h before m
    → Reads (module_in h before) (module_bytes m) m
unfolding module_in
module-reads h g before m f =
    let small = small_words h g in
    let heap = small_area h.words m.home.heap.first m.home.heap.count f.heap in
    let stack = small_area h.words m.home.stack.first (m.home.stack.words * h.harts) f.stack in
    let each = each_part m.home.stack.words h.harts g.harts.0 in
    let runs = few_runs h.words (λ (others : List (Run Perm)) (r : Run Perm). is_next_run h.words (length m.map) others r ≡ true)
    (λ others r e. small_place h.words (length m.map) others r.count
    (and_parts (has_place h.words (length m.map) others r.count) _ e).0) m.map [] (omega arith) f.map in
    subst (λ (s : List ℕ). Reads (module_in h before) s m) (sym (module-flat m))
    (reads_next _ (reads_between 1 32 (length m.name) (omega arith) f.name_length) refl
    (reads_next _ (reads_such _ _ (reads_piece m.name (length m.name) refl) f.name) refl
    (reads_next _ (reads_four m.home.heap.first (omega (arith, heap, small))) refl
    (reads_next _ (reads_such _ _ (reads_four m.home.heap.count (omega (arith, heap, small))) f.heap) refl
    (reads_next _ (reads_four m.home.stack.first (omega (arith, stack, small))) refl
    (reads_next _ (reads_such _ _ (reads_four m.home.stack.words (omega (arith, stack, each, small))) f.stack) refl
    (reads_next _ (reads_flag m.home.kills) refl
    (reads_next _ (reads_flag m.home.dead) refl
    (reads_next _ (reads_between 0 most_blocks (length m.home.blocks) (omega arith) (from_zero _ _ f.few_blocks)) refl
    (reads_next _ (reads_list block_bytes (λ others b. is_next_block m.home.heap others b ≡ true) (block_in m.home.heap)
    (block-reads h.words small m.home.heap heap) m.home.blocks (length m.home.blocks) refl f.blocks) refl
    (reads_next _ (reads_such _ _ (reads_four (length m.map) (omega (arith, runs, small)))
    (lt-ltb 0 (length m.map) (omega (arith, f.some_runs)))) refl
    (reads_next _ (reads_list map_run_bytes (λ others r. is_next_run h.words (length m.map) others r ≡ true) (map_run_in h (length m.map))
    (map-run-reads h small (length m.map)) m.map (length m.map) refl f.map) refl
    (reads_done m)))))))))))))

owner-run-reads : (h : Head) → IsHead h → (runs : ℕ) (before : List (Run ℕ)) (r : Run ℕ) → IsOwnerRun h runs before r
    → Reads (owner_run_in h runs before) (owner_run_bytes r) r
unfolding owner_run_in owner_run_bytes
owner-run-reads h g runs before r f =
    let p = small_place h.words runs before r.count f.count in
    let owner = leb-true r.value h.modules (and_parts (nat_le r.value h.modules) _ f.owner).0 in
    reads_next _ (reads_such _ _ (reads_four r.count (omega (arith, p.1, small_words h g))) f.count) refl
    (reads_next _ (reads_such _ _ (reads_four r.value (omega (arith, owner, g.modules.1))) f.owner) refl
    (reads_done r))

reads_module : (h : Head) → IsHead h → (n : ℕ) → IsBetween 1 h.modules n → Reads (between 1 h.modules) (little_endian 4 n) n
reads_module h g n b = reads_between 1 h.modules n (omega (arith, g.modules.1)) b

gate-reads : (h : Head) → IsHead h → (before : List Gate) (x : Gate) → IsStoredGate h before x → Reads (gate_in h before) (gate_bytes x) x
unfolding gate_in gate_bytes
gate-reads h g before x f =
    let word = ltb-true x.word h.words (and_parts (nat_lt x.word h.words) _ f.word).0 in
    reads_next _ (reads_module h g x.domain f.domain) refl
    (reads_next _ (reads_such _ _ (reads_four x.word (omega (arith, word, small_words h g))) f.word) refl
    (reads_next _ (reads_module h g x.target f.target) refl
    (reads_done x)))

frame-reads : (h : Head) → IsHead h → (before : List Frame) (x : Frame) → IsStoredFrame h x → Reads (frame_in h before) (frame_bytes x) x
unfolding frame_in frame_bytes
frame-reads h g before x f =
    reads_next _ (reads_such _ _ (reads_four x.back f.small) f.back) refl
    (reads_next _ (reads_module h g x.caller f.caller) refl
    (reads_next _ (reads_list (little_endian 4) (λ others n. n < 2 ^ 32) (λ others. number) (λ others n lt. reads_four n lt) x.kept 15
    f.count (each_of (λ (n : ℕ). n < 2 ^ 32) x.kept [] f.kept)) refl
    (reads_done x)))

-- a hart's bytes field by field
abbrev pub flat_hart : ℕ → StoredHart → List ℕ
flat_hart count x =
    little_endian 4 (status_number x.status) ++ (little_endian 4 x.domain ++ (little_endian 4 x.pc ++ (flat_map (little_endian 4) x.regs
    ++ (little_endian 4 count ++ (flat_map frame_bytes x.frames ++ (little_endian 4 x.heard ++ []))))))

hart_joined : (state regs count frames heard : List ℕ) →
    (state ++ (regs ++ [])) ++ ((count ++ (frames ++ [])) ++ (heard ++ [])) ≡ state ++ (regs ++ (count ++ (frames ++ (heard ++ []))))
hart_joined state regs count frames heard = simp (append_assoc, append-nil)

pub hart-flat : (x : StoredHart) → hart_bytes x ≡ flat_hart (length x.frames) x
unfolding hart_bytes state_bytes counted
hart-flat x = hart_joined (numbers (status_number x.status ∷ x.domain ∷ x.pc ∷ [])) (flat_map (little_endian 4) x.regs)
    (little_endian 4 (length x.frames)) (flat_map frame_bytes x.frames) (little_endian 4 x.heard)

hart-reads : (h : Head) → IsHead h → (before : List StoredHart) (x : StoredHart) → IsStoredHart h before x
    → Reads (hart_in h before) (hart_bytes x) x
unfolding hart_in
hart-reads h g before x f =
    let heard = heard_small h.harts (length before) x.status x.heard g.harts.1 f.heard in
    subst (λ (s : List ℕ). Reads (hart_in h before) s x) (sym (hart-flat x))
    (reads_next _ (reads_meant _ (reads_between 0 2 (status_number x.status) (omega arith) (status_small x.status)) (status_again x.status))
    refl
    (reads_next _ (reads_module h g x.domain f.domain) refl
    (reads_next _ (reads_such 4 is_pc (reads_four x.pc f.small) f.pc) refl
    (reads_next _ (reads_list (little_endian 4) (λ others n. (n < 2 ^ 32) × (is_register x.status (length others) n ≡ true)) (λ others.
    such (is_register x.status (length others)) number)
    (λ others n e. reads_such 4 (is_register x.status (length others)) (reads_four n e.0) e.1) x.regs 32 f.count
    (each_both (λ others n. is_register x.status (length others) n ≡ true) (λ (n : ℕ). n < 2 ^ 32) x.regs [] f.regs f.words)) refl
    (reads_next _ (reads_between 0 most_frames (length x.frames) (omega arith) (from_zero _ _ f.few_frames)) refl
    (reads_next _ (reads_list frame_bytes (λ others y. IsStoredFrame h y) (frame_in h) (frame-reads h g) x.frames (length x.frames) refl
    (each_of (IsStoredFrame h) x.frames [] f.frames)) refl
    (reads_next _ (reads_such 4 (is_heard h.harts (length before) x.status) (reads_four x.heard heard) f.heard) refl
    (reads_done x))))))))

-- a snapshot's bytes field by field
abbrev pub flat_stored : ℕ → ℕ → Stored → List ℕ
flat_stored runs count s =
    head_bytes s.head ++ (flat_map module_bytes s.modules ++ (little_endian 4 runs ++ (flat_map owner_run_bytes s.owners
    ++ (little_endian 4 count ++ (flat_map gate_bytes s.gates ++ (flat_map hart_bytes s.harts ++ (s.ram ++ [])))))))

stored_joined : (head modules runs owners count gates harts ram : List ℕ) →
    (head ++ (modules ++ ((runs ++ (owners ++ [])) ++ ((count ++ (gates ++ [])) ++ (harts ++ []))))) ++ ram
    ≡ head ++ (modules ++ (runs ++ (owners ++ (count ++ (gates ++ (harts ++ (ram ++ [])))))))
stored_joined head modules runs owners count gates harts ram = simp (append_assoc, append-nil)

pub stored-flat : (s : Stored) → spelling s ≡ flat_stored (length s.owners) (length s.gates) s
unfolding spelling front_bytes counted
stored-flat s = search (arith, stored_joined)

pub fields-read : (s : Stored) → IsStored s → Reads fields_in (spelling s) s
unfolding fields_in
fields-read s f = subst (λ (bs : List ℕ). Reads fields_in bs s) (sym (stored-flat s))
    (reads_next _ (head-reads s.head f.head) refl
    (reads_next _ (reads_list module_bytes (IsStoredModule s.head) (module_in s.head) (module-reads s.head f.head) s.modules s.head.modules
    f.module_count f.modules) refl
    (reads_next _ (reads_between 1 most_owner_runs (length s.owners) (omega arith) f.owner_runs) refl
    (reads_next _ (reads_list owner_run_bytes (IsOwnerRun s.head (length s.owners)) (owner_run_in s.head (length s.owners))
    (owner-run-reads s.head f.head (length s.owners)) s.owners (length s.owners) refl f.owners) refl
    (reads_next _ (reads_between 0 most_gates (length s.gates) (omega arith) (from_zero _ _ f.few_gates)) refl
    (reads_next _ (reads_list gate_bytes (IsStoredGate s.head) (gate_in s.head) (gate-reads s.head f.head) s.gates (length s.gates) refl
    f.gates) refl
    (reads_next _ (reads_list hart_bytes (IsStoredHart s.head) (hart_in s.head) (hart-reads s.head f.head) s.harts s.head.harts f.hart_count
    f.harts) refl
    (reads_next _ (reads_piece s.ram (4 * s.head.words) f.ram_count) refl
    (reads_done s)))))))))
