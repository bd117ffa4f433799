-- The line of a turn: its step and hart, the hart's domain and pc before it, what it was, and the instruction that stood at pc.
-- The rules: docs/COMMANDS.md, "The trace".
use Rattle.std.specs.Prelude.{ℕ, List, [], ◌∷◌, codes, decimal, Option, None, Some}
use Rattle.std.specs.List.{concat}
use Rattle.mx_isa.specs.declared.inst.Inst.{Inst}
use Rattle.mx_io.specs.Piece.{hex_number}
use Rattle.mx_model.specs.declared.values.TurnKind.{TurnKind}
use Rattle.mx_model.specs.declared.values.TurnKind.TheVariants as T
use Rattle.mx_trace.specs.declared.lines.Seen.{Seen}
use Rattle.mx_trace.specs.Text.{inst_text}

-- what a turn was
abbrev pub kind_name : TurnKind → List ℕ
kind_name T.Idle = codes "idle"
kind_name T.Waited = codes "waited"
kind_name T.Ran = codes "ran"
kind_name T.Crossed = codes "crossed"
kind_name T.Returned = codes "returned"
kind_name T.Trapped = codes "trapped"
kind_name T.Called = codes "called"

-- a hart's domain and pc before the turn; two dashes for one that there isn't
abbrev pub place_text : Option Seen → List ℕ
place_text None = codes "- -"
place_text (Some seen) = concat (decimal seen.domain ∷ codes " " ∷ hex_number seen.pc ∷ [])

-- the instruction that stood at its pc, where there is one to show
abbrev pub seen_inst : Option Seen → Option Inst
seen_inst None = None
seen_inst (Some seen) = seen.inst

-- its text, else a dash
abbrev pub shown_text : Option Inst → List ℕ
shown_text None = codes "-"
shown_text (Some inst) = inst_text inst

-- a turn: its step and hart, what was seen of the hart before it, and what it was
unfoldable pub turn_line : ℕ → ℕ → Option Seen → TurnKind → List ℕ
turn_line step hart before kind =
    concat (codes "turn " ∷ decimal step ∷ codes " " ∷ decimal hart ∷ codes " " ∷ place_text before
    ∷ codes " " ∷ kind_name kind ∷ codes " " ∷ shown_text (seen_inst before) ∷ codes "\n" ∷ [])
