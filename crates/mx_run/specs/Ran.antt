-- What the texts are where `run` ended with status 0: for a reader who asks for no cause of a refusal.
-- The rules: docs/PROMISES.md, "One clause for each command".
use Rattle.std.specs.Prelude.{◌≡◌, ℕ, ◌+◌, ◌*◌, List, Some}
use Rattle.mx_words.specs.Limits.{most_text_bytes}
use Rattle.mx_io.specs.Store.{FileMap, StoreState}
use Rattle.toml.specs.Data.{Members, table}
use Rattle.mx_model.specs.Run.{Schedule}
use Rattle.mx_manifest.specs.Plan.{plan_of}
use Rattle.mx_plan.specs.Manifest.{document}
use Rattle.mx_boot.specs.Boot.{boot_state}
use Rattle.mx_boot.specs.Faults.{ram_words}
use Rattle.mx_turns.specs.Ends.{Sinks}
use Rattle.mx_uncached.specs.Forgetting.{plain}
use Rattle.mx_uncached.specs.Turn.{plain_run}
use Rattle.mx_commands.specs.declared.status.Status.{Status}
use Rattle.mx_commands.specs.declared.status.Status.TheVariants.{Ran}
use Rattle.mx_commands.specs.Order.{Order}
use Rattle.mx_run.specs.Promise.{Smoothly}
use Rattle.mx_run.specs.Plainly.{HasFile, AreImages, AreInputs, IsSchedule}
use Rattle.mx_run.specs.Runs.{AsksRun, HoldsRun}

-- the files that a run read whole: its manifest, the images and the inputs of its modules, and its schedule
pub record Reads (files : FileMap) (o : Order) : Type 0 where
  pub bytes : List ℕ
  pub file : HasFile files most_text_bytes o.file bytes
  pub top : Members
  pub parsed : document bytes ≡ Some top
  pub images : List (List ℕ)
  pub taken : AreImages files (plan_of (table top)).modules images
  pub inputs : List (List ℕ)
  pub given : AreInputs files (4 * ram_words (plan_of (table top))) (plan_of (table top)).modules inputs
  pub schedule : Schedule
  pub named : IsSchedule files (plan_of (table top)).quantum o.schedule schedule

-- the texts are those of the plain machine's run from the state at boot of these files
abbrev pub RanSo : List (List ℕ) → FileMap → Sinks → Sinks → Status → Type 0
RanSo words files before now result =
    (o : Order) → AsksRun words o → result ≡ Ran →
    (r : Reads files o) × (let plan = plan_of (table r.top) in let p = plain (boot_state plan r.images r.inputs) in
    HoldsRun plan o (p.turns + o.steps) (plain_run r.schedule o.steps p) before now)

abbrev pub RanPlainly : List (List ℕ) → StoreState → StoreState → Sinks → Sinks → Status → Type 0
RanPlainly words = Smoothly (RanSo words)
