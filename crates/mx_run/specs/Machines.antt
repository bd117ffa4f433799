-- The texts of a run of the machine with its caches.
-- The rules: docs/PROMISES.md, "One clause for each command".
use Rattle.std.specs.Prelude.{ℕ, ◌+◌}
use Rattle.mx_model.specs.Run.{Schedule, run}
use Rattle.mx_model.specs.State.{State, flat}
use Rattle.mx_snapshot.specs.Kept.{KeptPlan}
use Rattle.mx_turns.specs.Ends.{Sinks}
use Rattle.mx_turns.specs.Runs.{dumped, note_lines, report_of}
use Rattle.mx_commands.specs.Commands.{options_of}
use Rattle.mx_commands.specs.Order.{Order}
use Rattle.mx_run.specs.Plainly.{HoldsTexts}

-- those of the state after the steps: console, report and dump
abbrev pub HoldsState : KeptPlan → Order → ℕ → State → Sinks → Sinks → Type 0
HoldsState kept o target t =
    HoldsTexts t.console (report_of kept target (options_of o) (note_lines t.notes) t)
    (dumped o.shown.dump kept (flat t))

abbrev pub HoldsMachine : KeptPlan → Order → State → Schedule → Sinks → Sinks → Type 0
HoldsMachine kept o s schedule = HoldsState kept o (s.core.turns + o.steps) (run schedule o.steps s)
