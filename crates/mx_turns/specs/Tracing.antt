-- The texts of a trace: a line for each turn of a run, from a step on.
-- The rules: docs/COMMANDS.md, "The trace".
use Rattle.std.specs.Prelude.{ℕ, zero, suc, ◌+◌, Bool, true, false, ◌&&◌, nat_lt, if◌then◌else◌, List, [], ◌++◌, length, Option, Some, None}
use Rattle.mx_machine.specs.Readings.{status_told}
use Rattle.mx_laws.specs.Standing.{standing_inst}
use Rattle.mx_model.specs.declared.values.Note.{Note}
use Rattle.mx_model.specs.declared.values.TurnKind.{TurnKind}
use Rattle.mx_model.specs.Reads.{Reads, reads, flat_reads}
use Rattle.mx_model.specs.Run.{Schedule, flat_made, hart_of, is_stopped, made_of, run, turn}
use Rattle.mx_model.specs.Turn.{Made}
use Rattle.mx_model.specs.State.{Core, Flat, State, hart_at}
use Rattle.mx_report.specs.Lines.{end_line}
use Rattle.mx_snapshot.specs.Rules.{is_waiting}
use Rattle.mx_trace.specs.Did.{Deed, did_line}
use Rattle.mx_trace.specs.declared.did.Held.{Held}
use Rattle.mx_trace.specs.Lines.{turn_line}
use Rattle.mx_trace.specs.declared.lines.Seen.{Seen}
use Rattle.mx_turns.specs.declared.tracing.Lines.{Lines}
use Rattle.mx_turns.specs.Ends.{Texts}
use Rattle.mx_turns.specs.Runs.{end_of}

-- what stands at a hart before its turn, where there is such a hart
abbrev pub seen_of : Reads → Core → ℕ → Seen
seen_of r c h = record {
  domain = (hart_at c h).domain;
  pc = (hart_at c h).pc;
  inst = standing_inst r c h;
}

abbrev pub seen_at : Reads → Core → ℕ → Option Seen
seen_at r c h = if nat_lt h (length c.harts) then Some (seen_of r c h) else None

-- what is held of a hart, where that is asked and there is such a hart
abbrev pub held_of : Core → ℕ → Held
held_of c h = record {
  domain = (hart_at c h).domain;
  waits = is_waiting (status_told (hart_at c h).status);
  regs = (hart_at c h).regs;
}

abbrev pub held_at : Bool → Core → ℕ → Option Held
held_at asked c h = if asked && nat_lt h (length c.harts) then Some (held_of c h) else None

-- what a turn did, by what was seen and held of its hart before it, and what is held of it after it
abbrev pub deed_of : Option Seen → Option Held → TurnKind → Option Note → Option Held → Option Deed
deed_of (Some seen) (Some before) kind note (Some after) = Some (record {
  kind = kind;
  note = note;
  inst = seen.inst;
  before = before;
  after = after;
})
deed_of _ _ _ _ _ = None

-- its line
abbrev pub deed_text : Option Deed → List ℕ
deed_text None = []
deed_text (Some deed) = did_line deed

-- the lines of a turn, which one below the step has not
abbrev pub line_text : Lines → ℕ → ℕ → Option Seen → TurnKind → Option Deed → List ℕ
line_text lines step h before kind deed =
    if nat_lt step lines.from then [] else turn_line step h before kind ++ deed_text deed

-- the lines of hart h's next turn
abbrev pub line_by : Reads → Core → Made → Lines → ℕ → List ℕ
line_by r c m lines h =
    line_text lines (c.turns + 1) h (seen_at r c h) m.kind
    (deed_of (seen_at r c h) (held_at lines.effects c h) m.kind m.note (held_at lines.effects m.core h))

-- of a state, and of a flat state
abbrev pub line_from : Lines → State → ℕ → List ℕ
line_from lines s h = line_by (reads s) s.core (made_of s h) lines h

abbrev pub flat_line_from : Lines → Flat → ℕ → List ℕ
flat_line_from lines f h = line_by (flat_reads f) f.core (flat_made f h) lines h

-- the lines of the turns of a run
abbrev pub trace : Schedule → Lines → ℕ → State → List ℕ
trace schedule lines zero s = []
trace schedule lines (suc n) s = elim (is_stopped schedule s) [
  | true ↦ []
  | false ↦ line_from lines s (hart_of schedule s.core)
      ++ trace schedule lines n (turn s (hart_of schedule s.core))
]

-- the end line of a run that ended in a state and was to reach so many turns
abbrev pub end_text : ℕ → Core → List ℕ
end_text target c = end_line c.turns (end_of target c)

-- the texts of a trace by a schedule, from a state that may have made turns
abbrev pub traced : Lines → ℕ → Schedule → State → Texts
traced lines steps schedule s = record {
  console = (run schedule steps s).console;
  report = trace schedule lines steps s
      ++ end_text (s.core.turns + steps) (run schedule steps s).core;
  dump = [];
  turns = steps;
  shown = λ made. (run schedule made s).console;
  told = λ made. trace schedule lines made s;
}
