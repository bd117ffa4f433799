-- The texts of a run: what it shows and tells turn by turn, and what closes it.
-- The rules: docs/COMMANDS.md, "The report".
use Rattle.std.specs.Prelude.{ℕ, ◌+◌, ◌==◌, if◌then◌else◌, List, [], ◌++◌, Option, Some, None, flat_map}
use Rattle.mx_model.specs.Run.{Schedule, all_halted, run}
use Rattle.mx_model.specs.State.{Core, State, Flat, flat}
use Rattle.mx_model.specs.declared.values.Note.{Note}
use Rattle.mx_report.specs.declared.closing.Options.{Options}
use Rattle.mx_report.specs.declared.lines.EndState.{EndState}
use Rattle.mx_report.specs.declared.lines.EndState.TheVariants as E
use Rattle.mx_report.specs.Lines.{note_line}
use Rattle.mx_report.specs.Texts.{closing}
use Rattle.mx_snapshot.specs.Kept.{KeptPlan}
use Rattle.mx_snapshot.specs.Spelling.{spelling}
use Rattle.mx_snapshot.specs.Stored.{stored_of}
use Rattle.mx_turns.specs.declared.task.Dump.{Dump}
use Rattle.mx_turns.specs.declared.task.Dump.TheVariants as D
use Rattle.mx_turns.specs.Ends.{Texts}

-- why a run ended that was to reach so many turns
abbrev pub end_of : ℕ → Core → EndState
end_of target c = if all_halted c then E.Halted else if c.turns == target then E.Steps else E.Schedule

-- the lines of notes
abbrev pub note_lines : List Note → List ℕ
note_lines notes = flat_map note_line notes

-- the dump of a machine: RAM's bytes or a snapshot, where one of the two is asked
abbrev pub dumped : Option Dump → KeptPlan → Flat → List ℕ
dumped None kept f = []
dumped (Some D.Ram) kept f = f.core.ram
dumped (Some D.Snapshot) kept f = spelling (stored_of kept f)

-- the report of a run that ended in a state: the lines of its turns, then the closing lines
unfoldable pub report_of : KeptPlan → ℕ → Options → List ℕ → State → List ℕ
report_of kept target options lines s = lines ++ closing kept.names (end_of target s.core) options s

-- the texts of a run that makes at most so many turns, by the state after each number of them
abbrev pub ended : KeptPlan → Options → Option Dump → ℕ → ℕ → (ℕ → State) → Texts
ended kept options dump target turns states = record {
  console = (states turns).console;
  report = report_of kept target options (note_lines (states turns).notes) (states turns);
  dump = dumped dump kept (flat (states turns));
  turns = turns;
  shown = λ made. (states made).console;
  told = λ made. note_lines (states made).notes;
}

-- the texts of a run by a schedule, from a state that may have made turns
abbrev pub ran : KeptPlan → Options → Option Dump → ℕ → Schedule → State → Texts
ran kept options dump steps schedule s =
    ended kept options dump (s.core.turns + steps) steps (λ made. run schedule made s)

-- the texts without the dump
abbrev pub undumped : Texts → Texts
undumped texts = record texts { dump = [] }
