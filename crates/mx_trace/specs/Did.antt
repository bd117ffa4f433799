-- The line of what a turn did: its fault or exit, its call, its load or store, and what it changed of its hart.
-- The rules: docs/COMMANDS.md, "What a turn did".
use Rattle.std.specs.Prelude.{ℕ, Bool, true, false, ◌*◌, ◌^◌, ◌%◌, ◌==◌, if◌then◌else◌, List, [], ◌∷◌, codes, decimal, flat_map}
use Rattle.std.specs.Prelude.{slice_index, Option, None, Some}
use Rattle.std.specs.List.{concat, range_with_len}
use Rattle.mx_isa.specs.declared.inst.Inst.{Inst}
use Rattle.mx_isa.specs.declared.inst.Inst.TheVariants.{Load, Store}
use Rattle.mx_io.specs.Piece.{hex_number}
use Rattle.mx_model.specs.declared.values.Note.{Note}
use Rattle.mx_model.specs.declared.values.Note.TheVariants.{Fault, Exit}
use Rattle.mx_model.specs.declared.values.TurnKind.{TurnKind}
use Rattle.mx_model.specs.declared.values.TurnKind.TheVariants.{Ran, Called}
use Rattle.mx_model.specs.Effect.{load_size, plus, reg, store_size}
use Rattle.mx_trace.specs.declared.did.Held.{Held}
use Rattle.mx_trace.specs.declared.did.Turned.{Turned}

-- a turn of a hart that there is: what it was, its line of the report and the instruction at which the hart stood, if any; the hart before
-- it and after it
pub record Deed : Type 0 where
  pub kind : TurnKind
  pub note : Option Note
  pub inst : Option Inst
  pub before : Held
  pub after : Held

abbrev pub deed : Turned → Held → Held → Deed
deed t before after = record { kind = t.kind; note = t.note; inst = t.inst; before = before; after = after }

-- a fault, a load and a store
abbrev pub fault_text : ℕ → ℕ → List ℕ
fault_text cause value = concat (codes " fault=" ∷ decimal cause ∷ codes "/" ∷ hex_number value ∷ [])

abbrev pub load_text : ℕ → ℕ → List ℕ
load_text at size = concat (codes " load=" ∷ hex_number at ∷ codes "/" ∷ decimal size ∷ [])

abbrev pub store_text : ℕ → ℕ → ℕ → List ℕ
store_text at size value =
    concat (codes " store=" ∷ hex_number at ∷ codes "/" ∷ decimal size ∷ codes "/" ∷ hex_number value ∷ [])

abbrev pub exit_text : ℕ → List ℕ
exit_text code = concat (codes " exit=" ∷ decimal code ∷ [])

-- the fault that it made, or its exit
abbrev pub noted_text : Note → List ℕ
noted_text (Fault step hart domain pc fault) = fault_text fault.cause fault.value
noted_text (Exit step hart domain code) = exit_text code

abbrev pub note_text : Option Note → List ℕ
note_text None = []
note_text (Some note) = noted_text note

-- the number of the call that it announced and on which its hart waits, or that took effect or was refused
abbrev pub call_text : TurnKind → Bool → List ℕ → List ℕ
call_text Called true regs = concat (codes " asks=" ∷ decimal (reg regs 17) ∷ [])
call_text Called false regs = concat (codes " call=" ∷ decimal (reg regs 17) ∷ [])
call_text _ waits regs = []

-- what an instruction loaded or stored, of the registers before it
abbrev pub accessed_text : Inst → List ℕ → List ℕ
accessed_text (Load width rd rs1 imm) regs = load_text (plus (reg regs rs1) imm) (load_size width)
accessed_text (Store width rs1 rs2 imm) regs =
    store_text (plus (reg regs rs1) imm) (store_size width) (reg regs rs2 % 2 ^ (8 * store_size width))
accessed_text _ regs = []

abbrev pub access_text : Option Inst → List ℕ → List ℕ
access_text None regs = []
access_text (Some inst) regs = accessed_text inst regs

-- that of a turn that ran
abbrev pub ran_text : TurnKind → Option Inst → List ℕ → List ℕ
ran_text Ran inst regs = access_text inst regs
ran_text _ inst regs = []

-- the domain, where it isn't the one before
abbrev pub domain_text : ℕ → ℕ → List ℕ
domain_text before after =
    if before == after then [] else concat (codes " domain=" ∷ decimal after ∷ [])

-- a register, where it isn't as before
abbrev pub change_text : ℕ → ℕ → ℕ → List ℕ
change_text i before after =
    if before == after then [] else concat (codes " x" ∷ decimal i ∷ codes "=" ∷ hex_number after ∷ [])

-- those that aren't as before
unfoldable pub changes_text : List ℕ → List ℕ → List ℕ
changes_text before after =
    flat_map (λ i. change_text i (slice_index before i) (slice_index after i)) (range_with_len 0 32)

-- the fields of a turn, each behind a blank
unfoldable pub fields : Deed → List ℕ
fields d =
    concat (note_text d.note ∷ call_text d.kind d.after.waits d.before.regs ∷ ran_text d.kind d.inst d.before.regs
    ∷ domain_text d.before.domain d.after.domain ∷ changes_text d.before.regs d.after.regs ∷ [])

-- the line of fields; none of none
abbrev pub line_of : List ℕ → List ℕ
line_of [] = []
line_of (byte ∷ more) = concat (codes "did" ∷ (byte ∷ more) ∷ codes "\n" ∷ [])

-- the line of what a turn did
abbrev pub did_line : Deed → List ℕ
did_line d = line_of (fields d)

-- whether a text has a byte
abbrev pub is_filled : List ℕ → Bool
is_filled [] = false
is_filled (byte ∷ more) = true
