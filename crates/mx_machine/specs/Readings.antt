-- What the readers of a machine tell of its state.
-- The rules: docs/COMMANDS.md, "The report".
use Rattle.std.specs.Prelude.{◌≡◌, ℕ, Bool, false, length, Option, None}
use Rattle.mx_words.specs.Hearing.{is_in}
use Rattle.mx_model.specs.State.{Hart, Module, Status, Running, Waiting, Halted}
use Rattle.mx_machine.specs.declared.hart.Hart.{Hart as Kept}
use Rattle.mx_machine.specs.declared.hart.Progress.{Progress}
use Rattle.mx_machine.specs.declared.hart.Progress.TheVariants as G
use Rattle.mx_machine.specs.declared.starts.StackArea.{StackArea}
use Rattle.mx_machine.specs.declared.views.HartPlace.{HartPlace}
use Rattle.mx_machine.specs.declared.views.HartStatus.{HartStatus}
use Rattle.mx_machine.specs.declared.views.HartStatus.TheVariants as V
use Rattle.mx_machine.specs.declared.views.HartView.{HartView}

-- a status without its call and its exit code
abbrev pub status_told : Status → HartStatus
status_told Running = V.Running
status_told (Waiting call heard) = V.Waiting
status_told (Halted code) = V.Halted

-- the same by what the machine keeps
abbrev pub status_by_progress : Progress → HartStatus
status_by_progress G.Running = V.Running
status_by_progress G.Waiting = V.Waiting
status_by_progress (G.Halted code) = V.Halted

-- the code of the exit that ended a hart, where one did
abbrev pub exit_of : Status → Option ℕ
exit_of Running = None
exit_of (Waiting call heard) = None
exit_of (Halted code) = code

-- the same by what the machine keeps
abbrev pub exit_by_progress : Progress → Option ℕ
exit_by_progress G.Running = None
exit_by_progress G.Waiting = None
exit_by_progress (G.Halted code) = code

-- a view tells a hart
pub record IsViewOf (hart : Hart) (view : HartView) : Type 0 where
  pub status : view.status ≡ status_told hart.status
  pub domain : view.domain ≡ hart.domain
  pub pc : view.pc ≡ hart.pc
  pub frames : view.frames ≡ length hart.frames
  pub regs : view.regs ≡ hart.regs

-- a view tells a hart that the machine keeps
pub record TellsHart (x : Kept) (view : HartView) : Type 0 where
  pub status : view.status ≡ status_by_progress x.progress
  pub domain : view.domain ≡ x.domain
  pub pc : view.pc ≡ x.pc
  pub frames : view.frames ≡ length x.frames
  pub regs : view.regs ≡ x.regs

-- a place tells where a hart stands
pub record IsPlaceOf (hart : Hart) (place : HartPlace) : Type 0 where
  pub status : place.status ≡ status_told hart.status
  pub domain : place.domain ≡ hart.domain
  pub pc : place.pc ≡ hart.pc

-- a place tells where a hart stands that the machine keeps
pub record TellsPlace (x : Kept) (place : HartPlace) : Type 0 where
  pub status : place.status ≡ status_by_progress x.progress
  pub domain : place.domain ≡ x.domain
  pub pc : place.pc ≡ x.pc

-- whether hart i has heard the call on which a hart waits
abbrev pub was_heard : Status → ℕ → Bool
was_heard Running i = false
was_heard (Waiting call heard) i = is_in heard i
was_heard (Halted code) i = false

-- a stack area tells a module's
pub record IsAreaOf (m : Module) (area : StackArea) : Type 0 where
  pub first : area.first ≡ m.stack.first
  pub words : area.words ≡ m.stack.words
  pub kills : area.kills ≡ m.kills
