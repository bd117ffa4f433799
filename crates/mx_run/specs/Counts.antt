-- What `run` gives of a manifest that boots with each of its options, `--counts` and `--save` among them: for a reader of caches and
-- snapshots.
-- The rules: docs/PROMISES.md, "One clause for each command".
use Rattle.std.specs.Prelude.{◌≡◌, ℕ, List, ◌∷◌, codes, Some}
use Rattle.mx_io.specs.Store.{FileMap, StoreState}
use Rattle.mx_model.specs.Run.{Schedule}
use Rattle.mx_model.specs.State.{State}
use Rattle.mx_manifest.specs.Plan.{Said}
use Rattle.mx_snapshot.specs.Kept.{kept_of}
use Rattle.mx_turns.specs.Ends.{Sinks}
use Rattle.mx_commands.specs.declared.status.Status.{Status}
use Rattle.mx_commands.specs.declared.status.Status.TheVariants.{Ran}
use Rattle.mx_commands.specs.declared.order.Way.TheVariants as way
use Rattle.mx_commands.specs.Order.{Order}
use Rattle.mx_run.specs.Words.{Go, go_request}
use Rattle.mx_run.specs.Promise.{Smoothly}
use Rattle.mx_run.specs.Plainly.{Boots, IsSchedule}
use Rattle.mx_run.specs.Machines.{HoldsMachine}

-- the texts of the machine with its caches
abbrev pub Counts : List (List ℕ) → FileMap → Sinks → Sinks → Status → Type 0
Counts words files before now result =
    (operands : List (List ℕ)) (o : Order) (plan : Said) (s : State) (schedule : Schedule) →
    words ≡ codes "run" ∷ operands → go_request way.Run operands ≡ Some (Go o) →
    Boots files o.file plan s → IsSchedule files plan.quantum o.schedule schedule →
    (result ≡ Ran) × HoldsMachine (kept_of plan) o s schedule before now

abbrev pub CountsSmoothly : List (List ℕ) → StoreState → StoreState → Sinks → Sinks → Status → Type 0
CountsSmoothly words = Smoothly (Counts words)
