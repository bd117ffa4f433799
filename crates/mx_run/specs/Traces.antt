-- What `trace` gives of a manifest that boots: for a reader of `trace` alone.
-- The rules: docs/PROMISES.md, "One clause for each command".
use Rattle.std.specs.Prelude.{◌≡◌, ℕ, ◌+◌, List, [], ◌∷◌, ◌++◌, codes, Some}
use Rattle.mx_io.specs.Store.{FileMap, StoreState}
use Rattle.mx_model.specs.Run.{Schedule, run}
use Rattle.mx_model.specs.State.{State}
use Rattle.mx_manifest.specs.Plan.{Said}
use Rattle.mx_turns.specs.Ends.{Sinks}
use Rattle.mx_turns.specs.Tracing.{end_text, trace}
use Rattle.mx_commands.specs.declared.status.Status.{Status}
use Rattle.mx_commands.specs.declared.status.Status.TheVariants.{Ran}
use Rattle.mx_commands.specs.declared.order.Way.TheVariants as way
use Rattle.mx_commands.specs.Commands.{lines_of}
use Rattle.mx_commands.specs.Order.{Order}
use Rattle.mx_run.specs.Words.{Go, go_request}
use Rattle.mx_run.specs.Promise.{Smoothly}
use Rattle.mx_run.specs.Plainly.{Boots, HoldsTexts, IsSchedule}

-- the console's text is the run's, and the report has a line for each turn from a step on, behind it where `--effects` is asked that of
-- what the turn did, and the end line
abbrev pub Traces : List (List ℕ) → FileMap → Sinks → Sinks → Status → Type 0
Traces words files before now result =
    (operands : List (List ℕ)) (o : Order) (plan : Said) (s : State) (schedule : Schedule) →
    words ≡ codes "trace" ∷ operands → go_request way.Trace operands ≡ Some (Go o) →
    Boots files o.file plan s → IsSchedule files plan.quantum o.schedule schedule →
    (result ≡ Ran) × HoldsTexts (run schedule o.steps s).console
    (trace schedule (lines_of o) o.steps s
    ++ end_text (s.core.turns + o.steps) (run schedule o.steps s).core) [] before now

abbrev pub TracesSmoothly : List (List ℕ) → StoreState → StoreState → Sinks → Sinks → Status → Type 0
TracesSmoothly words = Smoothly (Traces words)
