-- What `run` gives where a manifest boots and nothing fails: for a reader of `run` alone. No cache is in it, no other command, and no step
-- between files and texts. A run that shows the counts, and one that saves a snapshot, are in `Promise.Headline`.
-- The rules: docs/PROMISES.md, "One clause for each command".
use Rattle.std.specs.Prelude.{◌≡◌, ◌≢◌, ℕ, ◌+◌, false, List, [], ◌∷◌, ◌++◌, codes, Option, Some, None}
use Rattle.mx_io.specs.Store.{FileMap, StoreState}
use Rattle.mx_model.specs.Run.{Schedule}
use Rattle.mx_model.specs.State.{State}
use Rattle.mx_manifest.specs.Plan.{Said}
use Rattle.mx_report.specs.Texts.{closing}
use Rattle.mx_snapshot.specs.Kept.{kept_of}
use Rattle.mx_turns.specs.declared.task.Dump.{Dump}
use Rattle.mx_turns.specs.declared.task.Dump.TheVariants as D
use Rattle.mx_turns.specs.Ends.{Sinks}
use Rattle.mx_turns.specs.Runs.{end_of, note_lines}
use Rattle.mx_uncached.specs.Forgetting.{bare, plain}
use Rattle.mx_uncached.specs.Plain.{Plain}
use Rattle.mx_uncached.specs.Turn.{plain_run}
use Rattle.mx_commands.specs.declared.status.Status.{Status}
use Rattle.mx_commands.specs.declared.status.Status.TheVariants.{Ran}
use Rattle.mx_commands.specs.declared.order.Way.TheVariants as way
use Rattle.mx_commands.specs.Commands.{options_of}
use Rattle.mx_commands.specs.Order.{Order}
use Rattle.mx_run.specs.Words.{Go, go_request}
use Rattle.mx_run.specs.Promise.{Smoothly}
use Rattle.mx_run.specs.Plainly.{Boots, HoldsTexts, IsSchedule}

-- words that ask for a run, and neither for the counts nor for a snapshot
pub record AsksRun (words : List (List ℕ)) (o : Order) : Type 0 where
  pub operands : List (List ℕ)
  pub run : words ≡ codes "run" ∷ operands
  pub asks : go_request way.Run operands ≡ Some (Go o)
  pub uncounted : o.shown.counts ≡ false
  pub unsaved : o.shown.dump ≢ Some D.Snapshot

-- the report of a run that was to reach so many turns: the lines of its faults and exits, then the closing lines
abbrev pub plain_report : List (List ℕ) → ℕ → Order → Plain → List ℕ
plain_report names target o p =
    note_lines p.notes
    ++ closing names (end_of target (bare p).core) (record (options_of o) { counts = false }) (bare p)

-- the dump is RAM where it is asked for, and empty where it isn't
abbrev pub plain_dump : Option Dump → Plain → List ℕ
plain_dump None p = []
plain_dump (Some dump) p = p.ram

-- the texts of the state that the plain machine reaches
abbrev pub HoldsRun : Said → Order → ℕ → Plain → Sinks → Sinks → Type 0
HoldsRun plan o target p =
    HoldsTexts p.console (plain_report (kept_of plan).names target o p) (plain_dump o.shown.dump p)

-- what `run` gives of a manifest that boots
abbrev pub Runs : List (List ℕ) → FileMap → Sinks → Sinks → Status → Type 0
Runs words files before now result =
    (o : Order) (plan : Said) (s : State) (schedule : Schedule) →
    AsksRun words o → Boots files o.file plan s → IsSchedule files plan.quantum o.schedule schedule →
    (result ≡ Ran) × HoldsRun plan o ((plain s).turns + o.steps) (plain_run schedule o.steps (plain s)) before now

-- it does so over a store that tells its files, where the counts of faults stay and memory isn't wanting
abbrev pub RunsPlainly : List (List ℕ) → StoreState → StoreState → Sinks → Sinks → Status → Type 0
RunsPlainly words = Smoothly (Runs words)
