-- Examples of the definitions that compute: words, and what is done next.
use Rattle.std.proofs.Common.{◌≡◌, ℕ, Bool, List, [], ◌∷◌, ◌++◌, ◌&&◌, ◌||◌, not, map, get_or, bytes_eq, true, false, codes, Option, Some}
use Rattle.std.proofs.Common.{None, is_some, refl}
use Rattle.mx_commands.specs.declared.status.FileRole.TheVariants.{Source, Snapshot as SnapshotRole}
use Rattle.mx_commands.specs.declared.status.Status.TheVariants.{Usage, ShortFile, AsmFault, SnapshotFault}
use Rattle.mx_run.specs.Words.{Go, Asm, Audit, Twin, Mill, debug_meaning, meaning, order_in}
use Rattle.mx_commands.specs.Order.{nothing, plain_order}
use Rattle.mx_commands.specs.declared.order.Way.TheVariants as way
use Rattle.mx_commands.specs.declared.order.Way.{Way}
use Rattle.mx_commands.specs.Finding.{Large, Short, Whole}
use Rattle.mx_commands.specs.Next.{Read, End, refusal}
use Rattle.mx_commands.specs.Boots.{manifest_file}
use Rattle.mx_run.specs.Commands.{next}
use Rattle.mx_commands.specs.Commands.{source_file}
use Rattle.mx_commands.specs.declared.side.Side.TheVariants.{First}
use Rattle.mx_snapshot.specs.Fields.{fields_in, head_in, stored_in}
use Rattle.mx_resume.specs.Snapshot.{snapshot_of}
use Rattle.mx_words.specs.Bytes.{number_at}
use Rattle.mx_turns.specs.declared.task.Dump.TheVariants.{Ram, Snapshot}

-- words with a meaning, and words without
words_run : meaning (codes "run" ∷ codes "first.toml" ∷ codes "0010" ∷ []) ≡ Some (Go (plain_order way.Run (codes "first.toml") 10))
words_run = refl

words_options : meaning (codes "run" ∷ codes "first.toml" ∷ codes "7" ∷ codes "--counts" ∷ codes "--schedule" ∷ codes "s" ∷ codes "--dump"
    ∷ [])
    ≡ Some (Go (record (plain_order way.Run (codes "first.toml") 7) {
      schedule = Some (codes "s");
      shown =
          record nothing { dump = Some Ram; counts = true };
    }))
words_options = refl

words_no_name : meaning (codes "run" ∷ codes "first.toml" ∷ codes "7" ∷ codes "--schedule" ∷ []) ≡ None
words_no_name = refl

words_long_number : meaning (codes "run" ∷ codes "first.toml" ∷ codes "99999999999" ∷ []) ≡ None
words_long_number = refl

words_option : meaning (codes "run" ∷ codes "-x" ∷ codes "1" ∷ []) ≡ None
words_option = refl

words_trace : meaning (codes "trace" ∷ codes "first.toml" ∷ codes "7" ∷ codes "--from" ∷ codes "03" ∷ codes "--schedule" ∷ codes "s" ∷ [])
    ≡ Some (Go (record (plain_order way.Trace (codes "first.toml") 7) {
      schedule = Some (codes "s");
      shown =
          record nothing { from = Some 3 };
    }))
words_trace = refl

words_from_no_number : meaning (codes "trace" ∷ codes "first.toml" ∷ codes "7" ∷ codes "--from" ∷ codes "x" ∷ []) ≡ None
words_from_no_number = refl

words_effects : meaning (codes "trace" ∷ codes "first.toml" ∷ codes "7" ∷ codes "--effects" ∷ codes "--from" ∷ codes "3" ∷ [])
    ≡ Some (Go (record (plain_order way.Trace (codes "first.toml") 7) { shown = record nothing { from = Some 3; effects = true } }))
words_effects = refl

words_tables : meaning (codes "run" ∷ codes "first.toml" ∷ codes "7" ∷ codes "--tables" ∷ [])
    ≡ Some (Go (record (plain_order way.Run (codes "first.toml") 7) { shown = record nothing { tables = true } }))
words_tables = refl

words_asm : meaning (codes "asm" ∷ codes "a.s" ∷ []) ≡ Some (Asm (codes "a.s"))
words_asm = refl

words_save : meaning (codes "run" ∷ codes "first.toml" ∷ codes "7" ∷ codes "--save" ∷ [])
    ≡ Some (Go (record (plain_order way.Run (codes "first.toml") 7) { shown = record nothing { dump = Some Snapshot } }))
words_save = refl

words_resume : meaning (codes "resume" ∷ codes "memory.bin" ∷ codes "09" ∷ codes "--save" ∷ codes "--tables" ∷ codes "--schedule"
    ∷ codes "s" ∷ [])
    ≡ Some (Go (record (plain_order way.Resume (codes "memory.bin") 9) {
      schedule = Some (codes "s");
      shown =
          record nothing { dump = Some Snapshot; tables = true };
    }))
words_resume = refl

words_resume_with_a_dump : meaning (codes "resume" ∷ codes "memory.bin" ∷ codes "9" ∷ codes "--dump" ∷ [])
    ≡ Some (Go (record (plain_order way.Resume (codes "memory.bin") 9) { shown = record nothing { dump = Some Ram } }))
words_resume_with_a_dump = refl

words_resume_without_steps : meaning (codes "resume" ∷ codes "memory.bin" ∷ codes "--save" ∷ []) ≡ None
words_resume_without_steps = refl

words_audit : meaning (codes "audit" ∷ codes "first.toml" ∷ []) ≡ Some (Audit (codes "first.toml"))
words_audit = refl

words_audit_with_steps : meaning (codes "audit" ∷ codes "first.toml" ∷ codes "7" ∷ []) ≡ None
words_audit_with_steps = refl

words_twin : meaning (codes "twin" ∷ codes "p.toml" ∷ codes "q.toml" ∷ codes "01" ∷ codes "10" ∷ [])
    ≡ Some (Twin (record { first = codes "p.toml"; second = codes "q.toml"; domain = 1; steps = 10 }))
words_twin = refl

words_twin_without_steps : meaning (codes "twin" ∷ codes "p.toml" ∷ codes "q.toml" ∷ codes "1" ∷ []) ≡ None
words_twin_without_steps = refl

words_twin_of_no_domain : meaning (codes "twin" ∷ codes "p.toml" ∷ codes "q.toml" ∷ codes "x" ∷ codes "10" ∷ []) ≡ None
words_twin_of_no_domain = refl

words_mill : meaning (codes "mill" ∷ codes "007" ∷ []) ≡ Some (Mill 7)
words_mill = refl

words_greatest_mill : meaning (codes "mill" ∷ codes "2147483647" ∷ []) ≡ Some (Mill 2147483647)
words_greatest_mill = refl

words_mill_too_great : meaning (codes "mill" ∷ codes "2147483648" ∷ []) ≡ None
words_mill_too_great = refl

-- who has which option: `run`, `resume`, `trace` and the debugger
abbrev options : List (List (List ℕ))
options =
    (codes "--schedule" ∷ codes "s" ∷ []) ∷ (codes "--from" ∷ codes "3" ∷ []) ∷ (codes "--effects" ∷ []) ∷ (codes "--dump" ∷ [])
    ∷ (codes "--save" ∷ []) ∷ (codes "--tables" ∷ []) ∷ (codes "--counts" ∷ []) ∷ []

abbrev stands : Option Way → List (List ℕ) → Bool
stands asker option = is_some (order_in asker (codes "a" ∷ codes "7" ∷ option))

abbrev askers : List (Option Way)
askers = Some way.Run ∷ Some way.Resume ∷ Some way.Trace ∷ None ∷ []

who_has_which : map (λ option. map (λ asker. stands asker option) askers) options
    ≡ (true ∷ true ∷ true ∷ true ∷ [])
    ∷ (false ∷ false ∷ true ∷ false ∷ [])
    ∷ (false ∷ false ∷ true ∷ false ∷ [])
    ∷ (true ∷ true ∷ false ∷ false ∷ [])
    ∷ (true ∷ true ∷ false ∷ false ∷ [])
    ∷ (true ∷ true ∷ false ∷ false ∷ [])
    ∷ (true ∷ false ∷ false ∷ false ∷ []) ∷ []
who_has_which = refl

-- options stand beside each other in either order, but for each beside itself, and `--dump` beside `--save`
abbrev excludes : List ℕ → List ℕ → Bool
excludes a b = bytes_eq a b || bytes_eq a (codes "--dump") && bytes_eq b (codes "--save") || bytes_eq a (codes "--save")
    && bytes_eq b (codes "--dump")

which_stand_together : map (λ asker. map (λ a. map (λ b. stands asker (a ++ b)) options) options) askers
    ≡ map (λ asker. map (λ a. map (λ b. stands asker a && stands asker b && not (excludes (get_or a 0 []) (get_or b 0 []))) options)
    options) askers
which_stand_together = refl

-- the debugger's words
words_debug : debug_meaning (codes "debug" ∷ codes "first.toml" ∷ codes "7" ∷ codes "--schedule" ∷ codes "s" ∷ [])
    ≡ Some (record (plain_order way.Run (codes "first.toml") 7) { schedule = Some (codes "s") })
words_debug = refl

words_debug_without_steps : debug_meaning (codes "debug" ∷ codes "first.toml" ∷ []) ≡ None
words_debug_without_steps = refl

words_of_no_debugger : debug_meaning (codes "run" ∷ codes "first.toml" ∷ codes "7" ∷ []) ≡ None
words_of_no_debugger = refl

words_debug_of_the_program : meaning (codes "debug" ∷ codes "first.toml" ∷ codes "7" ∷ []) ≡ None
words_debug_of_the_program = refl

-- what is done next: nothing is read for words without meaning, a source is read once, and what was found decides
next_usage : next None [] ≡ End (refusal [] Usage)
next_usage = refl

next_source : next (Some (Asm (codes "a.s"))) [] ≡ Read (source_file (codes "a.s"))
next_source = refl

next_manifest : next (Some (Go (plain_order way.Run (codes "first.toml") 10))) [] ≡ Read (manifest_file First (codes "first.toml"))
next_manifest = refl

next_snapshot : next (Some (Go (plain_order way.Resume (codes "memory.bin") 9))) []
    ≡ Read (record { role = SnapshotRole; name = codes "memory.bin"; most = 1073741824; large = SnapshotFault 0 1 })
next_snapshot = refl

next_short : next (Some (Asm (codes "a.s"))) (Short 10 4 ∷ []) ≡ End (refusal (codes "a.s") (ShortFile Source 10 4))
next_short = refl

next_large : next (Some (Asm (codes "a.s"))) (Large ∷ []) ≡ End (refusal (codes "a.s") (AsmFault 0 11))
next_large = refl

-- a snapshot: its own file's faults, and then its bytes'
next_large_snapshot : next (Some (Go (plain_order way.Resume (codes "memory.bin") 9))) (Large ∷ [])
    ≡ End (refusal (codes "memory.bin") (SnapshotFault 0 1))
next_large_snapshot = refl

next_short_snapshot : next (Some (Go (plain_order way.Resume (codes "memory.bin") 9))) (Short 10 4 ∷ [])
    ≡ End (refusal (codes "memory.bin") (ShortFile SnapshotRole 10 4))
next_short_snapshot = refl

next_cut_snapshot : next (Some (Go (plain_order way.Resume (codes "memory.bin") 9)))
    (Whole (0x4D ∷ 0x58 ∷ 0x53 ∷ 0x4E ∷ 1 ∷ 0 ∷ 0 ∷ 0 ∷ []) ∷ [])
    ≡ End (refusal (codes "memory.bin") (SnapshotFault 8 2))
unfolding snapshot_of stored_in fields_in head_in number_at
next_cut_snapshot = refl

next_other_file : next (Some (Go (plain_order way.Resume (codes "memory.bin") 9))) (Whole (codes "version = 1") ∷ [])
    ≡ End (refusal (codes "memory.bin") (SnapshotFault 0 3))
unfolding snapshot_of stored_in fields_in head_in number_at
next_other_file = refl
