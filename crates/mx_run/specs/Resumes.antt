-- What `resume` gives of a snapshot that is read: for a reader of `resume` alone. Its options are those of a run.
-- The rules: docs/PROMISES.md, "One clause for each command".
use Rattle.std.specs.Prelude.{◌≡◌, ℕ, List, ◌∷◌, codes, Some, Ok}
use Rattle.mx_words.specs.Limits.{most_snapshot_bytes}
use Rattle.mx_io.specs.Store.{FileMap, StoreState}
use Rattle.mx_model.specs.Run.{Schedule}
use Rattle.mx_model.specs.State.{State}
use Rattle.mx_snapshot.specs.Kept.{KeptPlan}
use Rattle.mx_snapshot.specs.Resumed.{plan_of, state_of}
use Rattle.mx_snapshot.specs.Stored.{Stored}
use Rattle.mx_resume.specs.Snapshot.{snapshot_of}
use Rattle.mx_turns.specs.Ends.{Sinks}
use Rattle.mx_commands.specs.declared.status.Status.{Status}
use Rattle.mx_commands.specs.declared.status.Status.TheVariants.{Ran}
use Rattle.mx_commands.specs.declared.order.Way.TheVariants as way
use Rattle.mx_commands.specs.Order.{Order}
use Rattle.mx_run.specs.Words.{Go, go_request}
use Rattle.mx_run.specs.Promise.{Smoothly}
use Rattle.mx_run.specs.Plainly.{HasFile, IsSchedule}
use Rattle.mx_run.specs.Machines.{HoldsMachine}

-- the snapshot of this name is read: what is kept of its plan, and its state
pub record TakesUp (files : FileMap) (name : List ℕ) (kept : KeptPlan) (s : State) : Type 0 where
  pub bytes : List ℕ
  pub file : HasFile files most_snapshot_bytes name bytes
  pub stored : Stored
  pub good : snapshot_of bytes ≡ Ok stored
  pub plan : kept ≡ plan_of stored
  pub state : s ≡ state_of stored

-- the run goes on from the snapshot's state
abbrev pub Resumes : List (List ℕ) → FileMap → Sinks → Sinks → Status → Type 0
Resumes words files before now result =
    (operands : List (List ℕ)) (o : Order) (kept : KeptPlan) (s : State) (schedule : Schedule) →
    words ≡ codes "resume" ∷ operands → go_request way.Resume operands ≡ Some (Go o) →
    TakesUp files o.file kept s → IsSchedule files kept.quantum o.schedule schedule →
    (result ≡ Ran) × HoldsMachine kept o s schedule before now

abbrev pub ResumesSmoothly : List (List ℕ) → StoreState → StoreState → Sinks → Sinks → Status → Type 0
ResumesSmoothly words = Smoothly (Resumes words)
