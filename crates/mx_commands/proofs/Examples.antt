-- Examples of the definitions that compute: steps, texts, findings and lines of refusals.
use Rattle.std.proofs.Common.{◌≡◌, ℕ, ◌+◌, List, [], ◌∷◌, ◌++◌, false, codes, Some, Ok, Err, refl, inl, inr, arith}
use Rattle.std.specs.Fmt.{digits}
use Rattle.mx_io.specs.Answer.{Sized, Gave}
use Rattle.mx_io.specs.Piece.{shown_name}
use Rattle.std.specs.Str.{chars}
use Rattle.mx_commands.specs.declared.status.Status.TheVariants.{TablesFull}
use Rattle.mx_commands.specs.Order.{nothing, plain_order}
use Rattle.mx_commands.specs.declared.order.Way.TheVariants as way
use Rattle.mx_commands.specs.Finding.{Finding, Short, Whole, Finds}
use Rattle.mx_commands.specs.Next.{Read, End, refusal}
use Rattle.mx_commands.specs.Boots.{manifest_file}
use Rattle.mx_commands.specs.Commands.{after_first, run_from, schedule_file, texts_of}
use Rattle.mx_commands.specs.declared.side.Side.TheVariants.{Second}
use Rattle.mx_manifest.specs.declared.fault.Key.TheVariants as key
use Rattle.mx_manifest.specs.Plan.{Said}
use Rattle.mx_model.specs.Run.{ByBytes, run}
use Rattle.mx_model.specs.State.{State}
use Rattle.mx_snapshot.specs.Kept.{KeptPlan}
use Rattle.mx_snapshot.specs.Stored.{Stored}
use Rattle.mx_resume.specs.Snapshot.{NeedsMore}
use Rattle.mx_turns.specs.Runs.{ended}
use Rattle.mx_words.specs.declared.tables.Need.{Need}
use Rattle.mx_commands.specs.Resumed.{Onward, resumed}
use Rattle.mx_turns.specs.declared.task.Dump.TheVariants.{Ram}
use Rattle.mx_plan.specs.Manifest.{file_fault}
use Rattle.mx_commands.specs.Refusal.{refused_line, fault_text, place_text, detail_text, tables_full_line, short_file_line, no_file_line}
use Rattle.mx_commands.specs.Refusal.{asm_fault_line, unlike_line, snapshot_fault_line}

-- what follows a first boot, and a snapshot: the need of its tables, then its schedule
next_second : (plan : Said) (s : State) → after_first (record { first = codes "p"; second = codes "q"; domain = 1; steps = 10 }) plan s []
    ≡ Read (manifest_file Second (codes "q"))
next_second plan s = refl

next_full_snapshot : (rest : Onward) (need limit : Need) (found : List Finding)
    → resumed (codes "memory.bin") rest (Err (NeedsMore need limit)) found
    ≡ End (refusal (codes "memory.bin") (TablesFull need limit))
next_full_snapshot rest need limit found = refl

next_schedule_of_a_snapshot : (stored : Stored)
    → resumed (codes "memory.bin") (run_from (record (plain_order way.Resume (codes "memory.bin") 9) { schedule = Some (codes "s") }))
    (Ok stored) [] ≡ Read (schedule_file (codes "s"))
next_schedule_of_a_snapshot stored = refl

-- nine turns are added to those made, which a schedule's bytes count too
texts_of_a_snapshot : (kept : KeptPlan) (s : State) (bytes : List ℕ)
    → texts_of (record (plain_order way.Resume (codes "memory.bin") 9) { shown = record nothing { dump = Some Ram } }) way.Resume kept s
    (ByBytes bytes)
    ≡ ended kept (record { tables = false; counts = false }) (Some Ram) (s.core.turns + 9) 9 (λ made. run (ByBytes bytes) made s)
texts_of_a_snapshot kept s bytes = refl

-- a file of three bytes in two parts, and one that ended after two of them
finds_whole : Finds 9 (codes "f") (Sized (codes "f") (Some (Some 3)) ∷ Gave (codes "f") 0 3 (Some (7 ∷ 8 ∷ []))
    ∷ Gave (codes "f") 2 1 (Some (9 ∷ [])) ∷ []) (Whole (7 ∷ 8 ∷ 9 ∷ []))
finds_whole = (
  Some (Some 3),
  refl,
  inr (
    omega arith,
    (
      omega arith,
      Some (7 ∷ 8 ∷ []),
      refl,
      inl (
        7 ∷ 8 ∷ [],
        refl,
        omega arith,
        (omega arith, Some (9 ∷ []), refl, inl (9 ∷ [], refl, omega arith, (refl, refl))),
      ),
    ),
  ),
)

finds_short : Finds 9 (codes "f") (Sized (codes "f") (Some (Some 3)) ∷ Gave (codes "f") 0 3 (Some (7 ∷ 8 ∷ []))
    ∷ Gave (codes "f") 2 1 (Some []) ∷ []) (Short 3 2)
finds_short = (
  Some (Some 3),
  refl,
  inr (
    omega arith,
    (
      omega arith,
      Some (7 ∷ 8 ∷ []),
      refl,
      inl (
        7 ∷ 8 ∷ [],
        refl,
        omega arith,
        (omega arith, Some [], refl, inr (refl, refl)),
      ),
    ),
  ),
)

-- a control character of a name is shown as a question mark
no_file_example : no_file_line (codes "a\nend" ++ 27 ∷ 127 ∷ []) ≡ codes "no file a?end??\n"
unfolding no_file_line shown_name chars lib.Utf8.encode
no_file_example = refl

refused_example : refused_line (file_fault 9) ≡ codes "refused fault=9 at=manifest key=- detail=0\n"
unfolding refused_line fault_text place_text detail_text digits
refused_example = refl

full_example : tables_full_line (record { upper = 2; leaf = 1; spill = 0 }) (record { upper = 128; leaf = 0; spill = 4096 })
    ≡ codes "tables full upper=2/128 leaf=1/0 spill=0/4096\n"
unfolding tables_full_line digits
full_example = refl

unlike_example : unlike_line key.RamKib ≡ codes "twin unlike key=ram_kib\n"
unfolding unlike_line
unlike_example = refl

short_example : short_file_line (codes "first.toml") 10 4 ≡ codes "short file first.toml told=10 got=4\n"
unfolding short_file_line digits shown_name chars lib.Utf8.encode
short_example = refl

asm_example : asm_fault_line 2 1 ≡ codes "asm line=2 fault=1\n"
unfolding asm_fault_line digits
asm_example = refl

snapshot_example : snapshot_fault_line 65805 5 ≡ codes "snapshot fault=5 at=65805\n"
unfolding snapshot_fault_line digits
snapshot_example = refl
