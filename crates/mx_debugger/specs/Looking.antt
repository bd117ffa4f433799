-- What the debugger does before it talks: a manifest boots, a schedule is taken, and the two fix the run that is
-- looked at.
use Rattle.std.specs.Prelude.{◌≡◌, ℕ, List}
use Rattle.mx_io.specs.Answer.{Answer, Talks}
use Rattle.mx_model.specs.Run.{Schedule}
use Rattle.mx_model.specs.State.{State}
use Rattle.mx_manifest.specs.Plan.{Said}
use Rattle.mx_turns.specs.Ends.{Texts}
use Rattle.mx_debug.specs.Session.{Looked}
use Rattle.mx_commands.specs.declared.side.Side.TheVariants.{First}
use Rattle.mx_commands.specs.declared.status.Status.TheVariants.{Ran}
use Rattle.mx_commands.specs.Order.{Order}
use Rattle.mx_commands.specs.Finding.{Finding}
use Rattle.mx_commands.specs.Next.{Next, Outcome}
use Rattle.mx_commands.specs.Boots.{Load, after_load}
use Rattle.mx_commands.specs.Commands.{scheduled}
use Rattle.mx_commands.specs.Leads.{LeadsTo}

-- the run of an order, from a state at boot of a plan with images, by a schedule
abbrev pub looked_at : Order → Said → List (List ℕ) → State → Schedule → Looked
looked_at o plan images s schedule = record {
  start = s;
  schedule = schedule;
  most = o.steps;
  known = record { plan = plan; images = images };
}

-- the texts that may be made of a plan and of the run that is looked at
abbrev pub Made : Type 0
Made = Said → Looked → Texts

-- the outcome of these texts
abbrev pub outcome_of : Made → Said → Looked → Outcome
outcome_of made plan run = record { status = Ran; texts = made plan run }

-- the schedule that is asked is taken, and these texts are made of plan and run
abbrev pub loaded_by : Order → Made → Load
loaded_by o made images inputs plan s = scheduled plan.quantum
    (λ schedule. outcome_of made plan (looked_at o plan images s schedule)) o.schedule

-- the manifest boots, the schedule that is asked is taken, and these texts are made of plan and run: with those of `run`
-- these are its steps
abbrev pub looking : Order → Made → List Finding → Next
looking o made = after_load First o.file (loaded_by o made)

-- an outcome of these texts
pub record IsOf (texts : Texts) (outcome : Outcome) : Type 0 where
  pub status : outcome.status ≡ Ran
  pub console : outcome.texts.console ≡ texts.console
  pub report : outcome.texts.report ≡ texts.report
  pub dump : outcome.texts.dump ≡ texts.dump

-- what a store gave in a call fixes this plan and this run: whatever texts may be made of the two, there are answers,
-- just those that it gave, one after another, that lead to those of these two
abbrev pub Fixes : {S : Type 0} → (S → Answer → S → Type 0) → S → S → Order → Said → Looked → Type 0
Fixes gives store stored o plan run = (made : Made) →
    (answers : List Answer) × Talks gives store answers stored
    × ((outcome : Outcome) × LeadsTo (looking o made) answers outcome × IsOf (made plan run) outcome)
