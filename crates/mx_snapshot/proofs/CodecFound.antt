-- What is read was spelled: the fields of a snapshot.
use Rattle.std.proofs.Common.{◌≡◌, ℕ, ◌*◌, ◌^◌, ◌<◌, Bool, true, nat_lt, List, [], length, refl, sym, ap, ◌∙◌, subst, arith, ltb-true}
use Rattle.std.specs.Str.{bytes_eq}
use Rattle.std.proofs.lemmas.Slice.Eq.{bytes_eq-Decides}
use Rattle.mx_words.specs.declared.perm.Perm.{Perm}
use Rattle.mx_words.specs.Counting.{bit}
use Rattle.mx_words.specs.FirstFit.{Area, most_blocks}
use Rattle.mx_words.specs.Runs.{Run, most_owner_runs}
use Rattle.mx_words.specs.Limits.{is_buffer}
use Rattle.mx_image.specs.Image.{little_endian}
use Rattle.mx_manifest.specs.InRange.{IsBetween}
use Rattle.mx_model.specs.declared.values.Frame.{Frame}
use Rattle.mx_model.specs.declared.values.Gate.{Gate}
use Rattle.mx_model.specs.Gates.{most_frames, most_gates}
use Rattle.mx_model.specs.State.{most_modules}
use Rattle.mx_snapshot.proofs.CodecBack.{Recovers, recovers, recovers_as, recovers_four, recovers_list, recovers_meant, recovers_number}
use Rattle.mx_snapshot.proofs.CodecBack.{recovers_piece, recovers_such, tells_done, tells_next}
use Rattle.mx_snapshot.proofs.CodecBounds.{within_range, kind_back, status_back, bit_back, run_back, all_of, each_left, each_right}
use Rattle.mx_snapshot.proofs.CodecRead.{flat_hart, flat_module, flat_stored, hart-flat, module-flat, stored-flat}
use Rattle.mx_snapshot.specs.Fields.{between, block_in, fields_in, flag_in, frame_in, gate_in, hart_in, head_in, kind_by, map_run_in}
use Rattle.mx_snapshot.specs.Fields.{module_in, owner_run_in, status_by}
use Rattle.mx_snapshot.specs.Fits.{EachFits, IsHead, IsOwnerRun, IsStored, IsStoredFrame, IsStoredGate, IsStoredHart, IsStoredModule}
use Rattle.mx_snapshot.specs.Reader.{meant, number, piece, such, such_or}
use Rattle.mx_snapshot.specs.Rules.{has_place, is_area, is_free, is_heard, is_next_block, is_next_owner, is_next_run, is_pc, is_ram}
use Rattle.mx_snapshot.specs.Rules.{is_register}
use Rattle.mx_snapshot.specs.Spelling.{block_bytes, frame_bytes, gate_bytes, hart_bytes, head_bytes, kind_number, map_run_bytes}
use Rattle.mx_snapshot.specs.Spelling.{module_bytes, owner_run_bytes, sign, spelling, status_number}
use Rattle.mx_snapshot.specs.Stored.{Head, Stored, StoredHart, StoredModule}

recovers_between : (low high : ℕ) → Recovers (between low high) (little_endian 4) (IsBetween low high)
recovers_between low high = recovers_as (λ n h. (within_range low high n h.1, refl)) (recovers_such _ _ recovers_four)

recovers_in : (test : ℕ → Bool) → Recovers (such test number) (little_endian 4) (λ n. (n < 2 ^ 32) × (test n ≡ true))
recovers_in test = recovers_such _ _ recovers_four

recovers_flag : Recovers flag_in (λ b. little_endian 4 (bit b)) (λ b. Unit {0})
recovers_flag = recovers_meant _ (λ b. little_endian 4 (bit b)) (λ b. Unit {0}) (λ n h. (tt, ap (little_endian 4) (bit_back n h.1)))
    (recovers_between 0 1)

recovers_kind : Recovers (meant kind_by (between 0 2)) (λ k. little_endian 4 (kind_number k)) (λ k. Unit {0})
recovers_kind = recovers_meant _ (λ k. little_endian 4 (kind_number k)) (λ k. Unit {0}) (λ n h.
    (tt, ap (little_endian 4) (kind_back n h.1))) (recovers_between 0 2)

recovers_status : Recovers (meant status_by (between 0 2)) (λ k. little_endian 4 (status_number k)) (λ k. Unit {0})
recovers_status = recovers_meant _ (λ k. little_endian 4 (status_number k)) (λ k. Unit {0}) (λ n h.
    (tt, ap (little_endian 4) (status_back n h.1))) (recovers_between 0 2)

recovers_sign : Recovers (such_or 3 (bytes_eq sign) (piece 8)) (λ s. sign) (λ s. Unit {0})
recovers_sign = recovers_as (λ s h. (tt, sym ((bytes_eq-Decides sign s).0 h.1))) (recovers_such _ _ (recovers_piece 8))

pub head-recovers : Recovers head_in head_bytes IsHead
unfolding head_in head_bytes
head-recovers = recovers
    (tells_next _ recovers_sign (λ found is.
    tells_next _ (recovers_in is_ram) (λ words a.
    tells_next _ recovers_kind (λ kind b.
    tells_next _ (recovers_between 0 4096) (λ upper c.
    tells_next _ (recovers_between 0 262144) (λ leaf d.
    tells_next _ (recovers_between 0 1048576) (λ spill e.
    tells_next _ (recovers_in is_buffer) (λ lookaside f.
    tells_next _ (recovers_between 1 1000000) (λ quantum g.
    tells_next _ (recovers_between 1 most_modules) (λ modules h.
    tells_next _ (recovers_between 1 4) (λ harts i.
    tells_next _ (recovers_such _ _ (recovers_number 8)) (search (arith, tells_done, within_range)))))))))))))

block-recovers : (heap : Area) (before : List Area) → Recovers (block_in heap before) block_bytes (λ b. is_next_block heap before b ≡ true)
unfolding block_in block_bytes
block-recovers heap before = recovers
    (tells_next _ recovers_four (λ first a.
    tells_next _ (recovers_in (λ n. is_next_block heap before (record { first = first; count = n }))) (λ count b.
    let block : Area = record { first = first; count = count } in
    tells_done block _ (b.1, refl))))

map-run-recovers : (h : Head) (runs : ℕ) (before : List (Run Perm))
    → Recovers (map_run_in h runs before) map_run_bytes (λ r. is_next_run h.words runs before r ≡ true)
unfolding map_run_in map_run_bytes
map-run-recovers h runs before = recovers_as (λ r e. (e.1, refl))
    (recovers_such _ _ (recovers_meant _ (λ r. map_run_bytes r) (λ r. Unit {0}) (λ n lt.
    (tt, ap (λ (k : ℕ). little_endian 4 k) (run_back n))) recovers_four))

-- a module's bytes, where the counts are those of its lists
sized : (m : StoredModule) (size count runs : ℕ) → length m.name ≡ size → length m.home.blocks ≡ count → length m.map ≡ runs
    → flat_module size count runs m ≡ module_bytes m
sized m size count runs a b c = search (arith, flat_module, module-flat)

module-recovers : (h : Head) (before : List StoredModule) → Recovers (module_in h before) module_bytes (IsStoredModule h before)
unfolding module_in
module-recovers h before = recovers
    (tells_next _ (recovers_between 1 32) (λ size a.
    tells_next _ (recovers_such _ _ (recovers_piece size)) (λ name b.
    tells_next _ recovers_four (λ heap_first c.
    tells_next _ (recovers_in (is_area h.words heap_first)) (λ heap_count d.
    tells_next _ recovers_four (λ stack_first e.
    tells_next _ (recovers_in (λ n. is_area h.words stack_first (n * h.harts))) (λ stack_words f.
    tells_next _ recovers_flag (λ kills g.
    tells_next _ recovers_flag (λ dead i.
    tells_next _ (recovers_between 0 most_blocks) (λ count j.
    tells_next _ (recovers_list block_bytes (λ others b. is_next_block (record { first = heap_first; count = heap_count }) others b ≡ true)
    (block_in (record { first = heap_first; count = heap_count })) (block-recovers (record { first = heap_first; count = heap_count }))
    count) (λ blocks k.
    tells_next _ (recovers_in (nat_lt 0)) (λ runs l.
    tells_next _ (recovers_list map_run_bytes (λ others r. is_next_run h.words runs others r ≡ true) (map_run_in h runs)
    (map-run-recovers h runs) runs) (λ maps m.
    let stored : StoredModule = record {
      name = name;
      home = record {
        heap = record { first = heap_first; count = heap_count };
        blocks =
            blocks;
        stack = record { first = stack_first; words = stack_words };
        kills = kills;
        dead = dead;
      };
      map = maps;
    } in
    tells_done stored _ (
      record {
        name_length = subst (IsBetween 1 32) (sym b.0.0) a;
        name = b.1;
        heap = d.1;
        stack = f.1;
        few_blocks = omega (arith, k.0, j.1);
        blocks = k.1;
        some_runs = omega (arith, m.0, ltb-true 0 runs l.1);
        map = subst (λ (n : ℕ). EachFits (λ others r. is_next_run h.words n others r ≡ true) [] maps) (sym m.0) m.1;
      },
      sized stored size count runs b.0.0 k.0 m.0,
    ))))))))))))))

owner-run-recovers : (h : Head) (runs : ℕ) (before : List (Run ℕ))
    → Recovers (owner_run_in h runs before) owner_run_bytes (IsOwnerRun h runs before)
unfolding owner_run_in owner_run_bytes
owner-run-recovers h runs before = recovers
    (tells_next _ (recovers_in (has_place h.words runs before)) (λ count a.
    tells_next _ (recovers_in (is_next_owner h.modules before)) (λ owner b.
    let run : Run ℕ = record { count = count; value = owner } in
    tells_done run _ (record { count = a.1; owner = b.1 }, refl))))

gate-recovers : (h : Head) (before : List Gate) → Recovers (gate_in h before) gate_bytes (IsStoredGate h before)
unfolding gate_in gate_bytes
gate-recovers h before = recovers
    (tells_next _ (recovers_between 1 h.modules) (λ domain a.
    tells_next _ (recovers_in (is_free h.words before domain)) (λ word b.
    tells_next _ (recovers_between 1 h.modules) (λ target c.
    let gate : Gate = record { domain = domain; word = word; target = target } in
    tells_done gate _ (record { domain = a; word = b.1; target = c }, refl)))))

frame-recovers : (h : Head) (before : List Frame) → Recovers (frame_in h before) frame_bytes (IsStoredFrame h)
unfolding frame_in frame_bytes
frame-recovers h before = recovers
    (tells_next _ (recovers_in is_pc) (λ back a.
    tells_next _ (recovers_between 1 h.modules) (λ caller b.
    tells_next _ (recovers_list (little_endian 4) (λ others n. n < 2 ^ 32) (λ others. number) (λ others. recovers_four) 15) (λ kept c.
    let frame : Frame = record { back = back; caller = caller; kept = kept } in
    tells_done frame _ (
      record {
        back = a.1;
        small = a.0;
        caller = b;
        count = c.0;
        kept =
            all_of (λ (n : ℕ). n < 2 ^ 32) kept [] c.1;
      },
      refl,
    )))))

hart_sized : (x : StoredHart) (count : ℕ) → length x.frames ≡ count → flat_hart count x ≡ hart_bytes x
hart_sized x count e = ap (λ (n : ℕ). flat_hart n x) (sym e) ∙ sym (hart-flat x)

hart-recovers : (h : Head) (before : List StoredHart) → Recovers (hart_in h before) hart_bytes (IsStoredHart h before)
unfolding hart_in
hart-recovers h before = recovers
    (tells_next _ recovers_status (λ status a.
    tells_next _ (recovers_between 1 h.modules) (λ domain b.
    tells_next _ (recovers_in is_pc) (λ pc c.
    tells_next _ (recovers_list (little_endian 4) (λ others n. (n < 2 ^ 32) × (is_register status (length others) n ≡ true)) (λ others.
    such (is_register status (length others)) number) (λ others. recovers_in (is_register status (length others))) 32) (λ regs d.
    tells_next _ (recovers_between 0 most_frames) (λ count e.
    tells_next _ (recovers_list frame_bytes (λ others y. IsStoredFrame h y) (frame_in h) (frame-recovers h) count) (λ frames f.
    tells_next _ (recovers_in (is_heard h.harts (length before) status)) (λ heard g.
    let hart : StoredHart = record { status = status; domain = domain; pc = pc; regs = regs; frames = frames; heard = heard } in
    tells_done hart _ (
      record {
        domain = b;
        pc = c.1;
        small = c.0;
        count = d.0;
        words = each_left (λ others n. is_register status (length others) n ≡ true) (λ (n : ℕ). n < 2 ^ 32) regs [] d.1;
        regs = each_right (λ others n. is_register status (length others) n ≡ true) (λ (n : ℕ). n < 2 ^ 32) regs [] d.1;
        few_frames = omega (arith, f.0, e.1);
        frames = all_of (IsStoredFrame h) frames [] f.1;
        heard = g.1;
      },
      hart_sized hart count f.0,
    )))))))))

stored_sized : (s : Stored) (runs count : ℕ) → length s.owners ≡ runs → length s.gates ≡ count → flat_stored runs count s ≡ spelling s
stored_sized s runs count a b = search (arith, flat_stored, stored-flat)

pub fields-recover : Recovers fields_in spelling IsStored
unfolding fields_in
fields-recover = recovers
    (tells_next _ head-recovers (λ h a.
    tells_next _ (recovers_list module_bytes (IsStoredModule h) (module_in h) (module-recovers h) h.modules) (λ modules b.
    tells_next _ (recovers_between 1 most_owner_runs) (λ runs c.
    tells_next _ (recovers_list owner_run_bytes (IsOwnerRun h runs) (owner_run_in h runs) (owner-run-recovers h runs) runs) (λ owners d.
    tells_next _ (recovers_between 0 most_gates) (λ count e.
    tells_next _ (recovers_list gate_bytes (IsStoredGate h) (gate_in h) (gate-recovers h) count) (λ gates f.
    tells_next _ (recovers_list hart_bytes (IsStoredHart h) (hart_in h) (hart-recovers h) h.harts) (λ harts g.
    tells_next _ (recovers_piece (4 * h.words)) (λ ram i.
    let stored : Stored = record { head = h; modules = modules; owners = owners; gates = gates; harts = harts; ram = ram } in
    tells_done stored _ (
      record {
        head = a;
        module_count = b.0;
        modules = b.1;
        owner_runs = subst (IsBetween 1 most_owner_runs) (sym d.0) c;
        owners = subst (λ (n : ℕ). EachFits (IsOwnerRun h n) [] owners) (sym d.0) d.1;
        few_gates = omega (arith, f.0, e.1);
        gates = f.1;
        hart_count = g.0;
        harts = g.1;
        ram_count = i.0;
        ram = i.1;
      },
      stored_sized stored runs count d.0 f.0,
    ))))))))))
