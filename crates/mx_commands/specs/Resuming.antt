-- How a snapshot is taken up, from its name to its machine.
use Rattle.std.specs.Prelude.{◌≡◌, ◌-◌, ◌^◌, ◌≤◌, List, Result, Ok, Err}
use Rattle.mx_io.specs.Sink.{SinkState}
use Rattle.mx_io.specs.Answer.{Answer}
use Rattle.mx_any.specs.Machines.{meaning}
use Rattle.mx_model.specs.State.{State, flat}
use Rattle.mx_snapshot.specs.Kept.{IsOfPlan}
use Rattle.mx_resume.specs.declared.resumed.Resumed.{Resumed}
use Rattle.mx_turns.specs.Ends.{sinks}
use Rattle.mx_turns.specs.Running.{IsNew}
use Rattle.mx_commands.specs.declared.status.Status.{Status}
use Rattle.mx_commands.specs.Finding.{Finding}
use Rattle.mx_commands.specs.Next.{Next}
use Rattle.mx_commands.specs.Resumed.{Onward}
use Rattle.mx_commands.specs.Ends.{Continues, Comes}

-- a snapshot gave plan and machine, which is a state without texts that made at most 2^63 - 1 turns, and a step goes on with the two
pub record GoesOnFrom {S : Type 0} (gives : S → Answer → S → Type 0)
    (step : Onward → List Finding → Next) (store stored : S) (r : Resumed) : Type 0 where
  pub state : State
  pub new : IsNew state
  pub means : meaning r.machine ≡ flat state
  pub turns : state.core.turns ≤ 2 ^ 63 - 1
  pub plan : IsOfPlan r.plan (flat state)
  pub comes : (rest : Onward) → Comes (step rest) gives store stored (rest r.plan state)

-- a snapshot was taken up: the report is as it was, and the step goes on; or the call ended
abbrev pub TakesSnapshot : {S : Type 0} → (S → Answer → S → Type 0) →
    (Onward → List Finding → Next) → S → S → SinkState → SinkState → Result Resumed Status → Type 0
TakesSnapshot gives step store stored before now (Ok r) =
    (now ≡ before) × GoesOnFrom gives step store stored r
TakesSnapshot gives step store stored before now (Err status) =
    (rest : Onward) (console dump : SinkState) → Continues (step rest) gives store stored
    (sinks console before dump) (sinks console now dump) status
