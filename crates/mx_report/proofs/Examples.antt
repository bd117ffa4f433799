-- Worked examples of the report's lines, computed: small states, with the words of RAM that the lines show.
use Rattle.std.specs.Prelude.{◌≡◌, ℕ, true, false, List, [], ◌∷◌, ◌++◌, codes, flat_map, replicate, refl, Some}
use Rattle.std.specs.Fmt.{digits}
use Rattle.mx_words.specs.declared.perm.Perm.{Perm}
use Rattle.mx_words.specs.declared.perm.Perm.TheVariants as P
use Rattle.mx_words.specs.declared.tables.Kind.TheVariants as K
use Rattle.mx_words.specs.Caches.{no_cache}
use Rattle.mx_model.specs.declared.values.Call.{Call}
use Rattle.mx_model.specs.declared.values.Frame.{Frame}
use Rattle.mx_model.specs.declared.values.Note.TheVariants as N
use Rattle.mx_model.specs.State.{Hart, State, Status, Running, Waiting, Halted, no_module}
use Rattle.mx_report.specs.declared.lines.EndState.TheVariants as E
use Rattle.mx_report.specs.Lines.{fault_line, exit_line, note_line, end_line, hart_text, register_text, registers_line, view_lines}
use Rattle.mx_report.specs.Lines.{hart_lines, domain_head, map_line, owner_line, tables_line, shown_line, counts_text}
use Rattle.mx_report.specs.Texts.{map_lines, domain_lines, owner_lines, shown_lines, all_items, table_lines, counts_lines, all_harts}
use Rattle.mx_report.specs.Texts.{all_domains, asked_lines, closing_of, closing}
use Rattle.mx_tail.specs.Tail.{sent, held}

-- notes: a store into code, and an exit
fault-shown : note_line (N.Fault 2 0 1 0x80000004 (record { cause = 7; value = 0x80000000 }))
    ≡ codes "fault step=2 hart=0 domain=1 pc=0x80000004 cause=7 value=0x80000000\n"
unfolding fault_line digits
fault-shown = refl

fault-of-another : note_line (N.Fault 14 1 2 0x80001034 (record { cause = 17; value = 12 }))
    ≡ codes "fault step=14 hart=1 domain=2 pc=0x80001034 cause=17 value=0x0000000c\n"
unfolding fault_line digits
fault-of-another = refl

exit-shown : note_line (N.Exit 3 0 1 5) ≡ codes "exit step=3 hart=0 domain=1 code=5\n"
unfolding exit_line digits
exit-shown = refl

exit-of-another : note_line (N.Exit 7 3 2 4294967295) ≡ codes "exit step=7 hart=3 domain=2 code=4294967295\n"
unfolding exit_line digits
exit-of-another = refl

-- the three ends
end-halted : end_line 3 E.Halted ≡ codes "end steps=3 state=halted\n"
unfolding end_line digits
end-halted = refl

end-steps : end_line 0 E.Steps ≡ codes "end steps=0 state=steps\n"
unfolding end_line digits
end-steps = refl

end-schedule : end_line 3 E.Schedule ≡ codes "end steps=3 state=schedule\n"
unfolding end_line digits
end-schedule = refl

-- a hart whose registers are zero but x10 and x17
abbrev regs : List ℕ
regs = replicate 10 0 ++ 5 ∷ replicate 6 0 ++ 1 ∷ replicate 14 0

abbrev hart_with : Status → List Frame → Hart
hart_with status frames = record { regs = regs; pc = 0x80000008; domain = 1; frames = frames; status = status }

abbrev zeros : ℕ → List ℕ
zeros n = flat_map (λ (r : ℕ). codes " 00000000") (replicate n 0)

abbrev regs_shown : List ℕ
regs_shown = zeros 10 ++ codes " 00000005" ++ zeros 6 ++ codes " 00000001" ++ zeros 14 ++ codes "\n"

hart-halted : hart_lines 0 (hart_with (Halted (Some 5)) []) ≡ codes "hart 0 status=halted domain=1 pc=0x80000008 frames=0\nregs 0"
    ++ regs_shown
unfolding view_lines hart_text registers_line register_text digits
hart-halted = refl

abbrev frame : Frame
frame = record { back = 0; caller = 1; kept = replicate 15 0 }

hart-running : hart_lines 1 (hart_with Running (frame ∷ frame ∷ [])) ≡ codes "hart 1 status=running domain=1 pc=0x80000008 frames=2\nregs 1"
    ++ regs_shown
unfolding view_lines hart_text registers_line register_text digits
hart-running = refl

abbrev call : Call
call = record { number = 3; args = []; hart = 0; domain = 1; nested = false }

hart-waiting : hart_lines 0 (hart_with (Waiting call []) []) ≡ codes "hart 0 status=waiting domain=1 pc=0x80000008 frames=0\nregs 0"
    ++ regs_shown
unfolding view_lines hart_text registers_line register_text digits
hart-waiting = refl

-- a domain, and a dead one
abbrev cells : {A : Type 0} → List (ℕ × A) → List A
cells {A} rs = flat_map (λ (r : ℕ × A). replicate r.0 r.1) rs

abbrev code_map : List Perm
code_map = cells ((3, P.ExecuteRead) ∷ (45, P.None) ∷ [])

domain-shown : domain_lines 1 (codes "m") false code_map ≡ codes "domain 1 m\nmap 1 0x80000000 0x8000000c rx\n"
unfolding domain_lines domain_head map_lines map_line digits
domain-shown = refl

dead-shown : domain_lines 2 (codes "b") true (cells ((1, P.ExecuteRead) ∷ (7, P.None) ∷ []))
    ≡ codes "domain 2 b dead\nmap 2 0x80000000 0x80000004 rx\n"
unfolding domain_lines domain_head map_lines map_line digits
dead-shown = refl

-- each run of one permission, whatever lies between, up to RAM's end
runs-shown : map_lines 12 (cells ((4, P.None) ∷ (2, P.Read) ∷ (4, P.ReadWrite) ∷ (1, P.None) ∷ (1, P.Read) ∷ []))
    ≡ codes "map 12 0x80000010 0x80000018 r\nmap 12 0x80000018 0x80000028 rw\nmap 12 0x8000002c 0x80000030 r\n"
unfolding map_lines map_line digits
runs-shown = refl

-- owners: one word given away, and words of the supervisor between two runs of one owner
owners-shown : owner_lines (cells ((2, 2) ∷ (7, 1) ∷ (3, 0) ∷ (1, 1) ∷ []))
    ≡ codes "owner 0x80000000 0x80000008 2\nowner 0x80000008 0x80000024 1\nowner 0x80000030 0x80000034 1\n"
unfolding owner_lines owner_line digits
owners-shown = refl

-- stored items: one line's entry, which reaches over two lines; an item without a permission isn't shown
leaf-shown : shown_lines 1 K.Packed code_map ≡ codes "shown 1 leaf 0x80000000 0x07c00c0e\n"
unfolding shown_lines shown_line digits
leaf-shown = refl

-- four runs of a line, and five
abbrev spilled : Perm → List Perm
spilled last = cells ((17, P.None) ∷ (1, P.Read) ∷ (1, P.ReadWrite) ∷ (12, P.None) ∷ (1, last) ∷ [])

spill-shown : shown_lines 1 K.Packed (spilled P.Read) ≡ codes "shown 1 spill 0x80000040 0x40000024\n"
unfolding shown_lines shown_line digits
spill-shown = refl

plain-shown : shown_lines 2 K.Multilevel (spilled P.Read) ≡ codes "shown 2 leaf 0x80000040 0x40000024\n"
unfolding shown_lines shown_line digits
plain-shown = refl

segments-shown : shown_lines 1 K.Segments (cells ((4, P.None) ∷ (4, P.ReadWrite) ∷ (2, P.Read) ∷ (6, P.None) ∷ []))
    ≡ codes "shown 1 segment 0x80000010 0x80000012\nshown 1 segment 0x80000020 0x80000021\n"
unfolding shown_lines shown_line digits
segments-shown = refl

-- eighths of a page
mid-shown : shown_lines 1 K.Packed (cells ((128, P.ExecuteRead) ∷ [])) ≡ codes "shown 1 mid 0x80000000 0x0000000d\n"
unfolding shown_lines shown_line digits
mid-shown = refl

tables-shown : tables_line K.Multilevel (record { upper = 2; leaf = 1; spill = 0 }) (record { upper = 128; leaf = 0; spill = 4096 })
    ≡ codes "tables kind=multilevel upper=2/128 leaf=1/0 spill=0/4096\n"
unfolding tables_line digits
tables-shown = refl

-- the whole, in its order: three words of code in a RAM of 48 words, after their three steps
abbrev three_words : State
three_words = record {
  core = record {
    ram = [];
    modules = no_module ∷ [];
    gates = [];
    harts = hart_with (Halted (Some 5)) [] ∷ [];
    caches = record no_cache { sidecar = 2; walks = 1 } ∷ [];
    turns = 3;
    size = 48;
    kind = K.Packed;
    limit = record { upper = 128; leaf = 4096; spill = 4096 };
    buffer = 32;
  };
  grants = (record { first = 0; count = 3; value = P.ExecuteRead } ∷ []) ∷ [];
  gives = record { first = 0; count = 3; value = 1 } ∷ [];
  console = [];
  notes = [];
}

abbrev always_shown : List ℕ
always_shown = codes "end steps=3 state=halted\nhart 0 status=halted domain=1 pc=0x80000008 frames=0\nregs 0" ++ regs_shown
    ++ codes "domain 1 m\nmap 1 0x80000000 0x8000000c rx\nowner 0x80000000 0x8000000c 1\n"

abbrev tables_told : List ℕ
tables_told = codes "tables kind=packed upper=2/128 leaf=1/4096 spill=0/4096\nshown 1 leaf 0x80000000 0x07c00c0e\n"

abbrev counts_told : List ℕ
counts_told = codes "counts 0 sidecar=2 lookaside=0 walks=1\n"

closing-alone : closing (codes "m" ∷ []) E.Halted (record { tables = false; counts = false }) three_words ≡ always_shown
unfolding closing_of asked_lines end_line all_harts view_lines hart_text registers_line register_text all_domains domain_lines domain_head
    map_lines map_line owner_lines owner_line digits
closing-alone = refl

closing-with-tables : closing (codes "m" ∷ []) E.Halted (record { tables = true; counts = false }) three_words ≡ always_shown ++ tables_told
unfolding closing_of asked_lines end_line all_harts view_lines hart_text registers_line register_text all_domains domain_lines domain_head
    map_lines map_line owner_lines owner_line table_lines tables_line all_items shown_lines shown_line digits
closing-with-tables = refl

closing-with-both : closing (codes "m" ∷ []) E.Halted (record { tables = true; counts = true }) three_words ≡ always_shown ++ tables_told
    ++ counts_told
unfolding closing_of asked_lines end_line all_harts view_lines hart_text registers_line register_text all_domains domain_lines domain_head
    map_lines map_line owner_lines owner_line table_lines tables_line all_items shown_lines shown_line counts_lines counts_text digits
closing-with-both = refl

-- two domains and two harts, each with its own lines
abbrev two_of_each : State
two_of_each = record three_words {
  core = record three_words.core {
    modules = no_module ∷ record no_module { dead = true } ∷ [];
    harts = hart_with Running [] ∷ hart_with Running [] ∷ [];
    caches = no_cache ∷ record no_cache { lookaside = 4 } ∷ [];
  };
  grants = (record { first = 0; count = 3; value = P.ExecuteRead } ∷ []) ∷ (record { first = 16; count = 1; value = P.Read } ∷ []) ∷ [];
}

two-of-each : closing (codes "a" ∷ codes "b" ∷ []) E.Steps (record { tables = true; counts = true }) two_of_each
    ≡ codes "end steps=3 state=steps\nhart 0 status=running domain=1 pc=0x80000008 frames=0\nregs 0" ++ regs_shown
    ++ codes "hart 1 status=running domain=1 pc=0x80000008 frames=0\nregs 1" ++ regs_shown
    ++ codes "domain 1 a\nmap 1 0x80000000 0x8000000c rx\ndomain 2 b dead\nmap 2 0x80000040 0x80000044 r\nowner 0x80000000 0x8000000c 1\n"
    ++ codes "tables kind=packed upper=4/128 leaf=2/4096 spill=0/4096\nshown 1 leaf 0x80000000 0x07c00c0e\nshown 2 leaf 0x80000040 0x04000406\n"
    ++ codes "counts 0 sidecar=0 lookaside=0 walks=0\ncounts 1 sidecar=0 lookaside=4 walks=0\n"
unfolding closing_of asked_lines end_line all_harts view_lines hart_text registers_line register_text all_domains domain_lines domain_head
    map_lines map_line owner_lines owner_line table_lines tables_line all_items shown_lines shown_line counts_lines counts_text digits
two-of-each = refl

-- what is held: fewer bytes than a piece, a piece, and one byte more
held-few : held (codes "hi\n") ≡ codes "hi\n"
unfolding held
held-few = refl

sent-piece : sent (replicate 4096 7) ≡ replicate 4096 7
unfolding sent
sent-piece = refl

held-behind : held (replicate 4096 7 ++ codes "hi\n") ≡ codes "hi\n"
unfolding held
held-behind = refl
