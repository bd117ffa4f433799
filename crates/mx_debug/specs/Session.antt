-- A debugger's session: the run that it looks at, and where it stops.
use Rattle.std.specs.Prelude.{ℕ, zero, suc, ◌+◌, ◌^◌, Bool, true, false, not, ◌==◌, ◌&&◌, ◌||◌, nat_lt, nat_le, max, List, [], length, drop}
use Rattle.std.specs.Prelude.{Option, Some, None, if◌then◌else◌}
use Rattle.std.specs.List.{list_any}
use Rattle.mx_model.specs.Checks.{is_halted}
use Rattle.mx_model.specs.declared.values.Note.{Note}
use Rattle.mx_model.specs.declared.values.TurnKind.{TurnKind}
use Rattle.mx_model.specs.declared.values.TurnKind.TheVariants as T
use Rattle.mx_model.specs.Run.{Schedule, hart_of, is_stopped, kind, made_of, run}
use Rattle.mx_model.specs.State.{Core, Hart, Status, Running, Waiting, Halted, State, hart_at}
use Rattle.mx_debug_texts.specs.Documents.{Known}
use Rattle.mx_debug.specs.declared.stop.Step.{Step}
use Rattle.mx_debug.specs.declared.stop.Stop.{Stop}
use Rattle.mx_debug.specs.declared.stop.Stop.TheVariants as S

-- what is looked at: the run from the state at boot, of at most so many turns, and what is known of that boot
pub record Looked : Type 0 where
  pub start : State
  pub schedule : Schedule
  pub most : ℕ
  pub known : Known

-- the state after so many turns, and the hart whose turn is next there
abbrev pub state_at : Looked → ℕ → State
state_at q k = run q.schedule k q.start

abbrev pub next_at : Looked → ℕ → ℕ
next_at q k = hart_of q.schedule (state_at q k).core

-- no turn is made from there
abbrev pub ends_at : Looked → ℕ → Bool
ends_at q k = nat_le q.most k || is_stopped q.schedule (state_at q k)

-- the hart whose turn is next there, where a turn is made
abbrev pub next_of : Looked → ℕ → Option ℕ
next_of q k = if ends_at q k then None else Some (next_at q k)

-- the bytes that the turn from there adds to the console
abbrev pub bytes_at : Looked → ℕ → List ℕ
bytes_at q k = drop (length (state_at q k).console) (state_at q (k + 1)).console

abbrev pub is_running : Status → Bool
is_running Running = true
is_running (Waiting call heard) = false
is_running (Halted code) = false

-- a hart runs and stands at a breakpoint
abbrev pub stands : Core → ℕ → List ℕ → Bool
stands c h breaks = is_running (hart_at c h).status && list_any (λ b. b == (hart_at c h).pc) breaks

-- the next hart does
abbrev pub breaks_at : Looked → List ℕ → ℕ → Bool
breaks_at q breaks k = stands (state_at q k).core (next_at q k) breaks

-- its turn traps
abbrev pub is_trapped : TurnKind → Bool
is_trapped T.Trapped = true
is_trapped T.Idle = false
is_trapped T.Waited = false
is_trapped T.Ran = false
is_trapped T.Crossed = false
is_trapped T.Returned = false
is_trapped T.Called = false

abbrev pub faults_at : Looked → ℕ → Bool
faults_at q k = is_trapped (kind (state_at q k) (next_at q k))

-- whether a search forward that stops there may have made the next turn too, as it traps: then one boots again
abbrev pub is_past : Looked → ℕ → Bool
is_past q k = not (ends_at q k) && faults_at q k

-- what it notes
abbrev pub note_at : Looked → ℕ → Option Note
note_at q k = (made_of (state_at q k) (next_at q k)).note

-- what a search forward is asked: the addresses of the breakpoints, whether faults stop it, and the step that is made
pub record Asked : Type 0 where
  pub breaks : List ℕ
  pub faults : Bool
  pub step : Option Step

-- why the run stops before its next turn there: a breakpoint or a fault that was told isn't told again
abbrev pub stop_before : Looked → Asked → ℕ → Bool → Bool → Option Stop
stop_before q a k broke faulted =
    if ends_at q k then Some S.Ends
    else if breaks_at q a.breaks k && not broke then Some (S.Breaks (next_at q k))
    else if a.faults && faults_at q k && not faulted then Some (S.Faults (next_at q k) (note_at q k))
    else None

abbrev pub is_idle : TurnKind → Bool
is_idle T.Idle = true
is_idle T.Trapped = false
is_idle T.Waited = false
is_idle T.Ran = false
is_idle T.Crossed = false
is_idle T.Returned = false
is_idle T.Called = false

-- a step goes on while its hart isn't halted and stands in the step's range
abbrev pub stays : Step → Hart → Bool
stays step hart = not (is_halted hart.status) && nat_le step.first hart.pc && nat_lt hart.pc step.end

-- whether a turn of this hart, which leaves it like this, is the last one of a step; one in which nothing happens never is
abbrev pub is_last : Option Step → ℕ → TurnKind → Hart → Bool
is_last None h turn hart = false
is_last (Some step) h turn hart = (step.hart == h) && not (is_idle turn) && not (stays step hart)

abbrev pub steps_at : Looked → Option Step → ℕ → Bool
steps_at q step k =
    is_last step (next_at q k) (kind (state_at q k) (next_at q k)) (hart_at (state_at q (k + 1)).core (next_at q k))

-- why it stops after that turn
abbrev pub stop_after : Looked → Option Step → ℕ → Option Stop
stop_after q step k = if steps_at q step k then Some (S.Steps (next_at q k)) else None

-- forward from there: the number of turns at which it stops first, and why; it pauses after so many turns
abbrev pub forward : Looked → Asked → ℕ → ℕ → Bool → Bool → ℕ × Stop
forward q a zero k broke faulted = (k, S.Pauses)
forward q a (suc turns) k broke faulted = elim (stop_before q a k broke faulted) [
  | Some stop ↦ (k, stop)
  | None ↦ elim (stop_after q a.step k) [
    | Some stop ↦ (k + 1, stop)
    | None ↦ forward q a turns (k + 1) false false
  ]
]

-- a session: the number of turns after which the run is looked at, whether a breakpoint there was told and whether a fault, the number of
-- turns whose console bytes were told, why the run stands there, the breakpoints, the hart whose registers are told, the hart that makes
-- steps, and whether bytes are acknowledged
pub record Session : Type 0 where
  pub made : ℕ
  pub broke : Bool
  pub faulted : Bool
  pub told : ℕ
  pub stop : Stop
  pub breaks : List ℕ
  pub shown : ℕ
  pub followed : ℕ
  pub acknowledges : Bool

abbrev pub first_session : Session
first_session = record {
  made = 0;
  broke = false;
  faulted = false;
  told = 0;
  stop = S.Steps 0;
  breaks = [];
  shown = 0;
  followed = 0;
  acknowledges = true;
}

-- the most turns that the run goes on before it pauses
abbrev pub most_turns : ℕ
most_turns = 10 ^ 8

-- where the run goes on to from a session's place
abbrev pub asked_of : Session → Option Step → Asked
asked_of s step = record { breaks = s.breaks; faults = true; step = step }

abbrev pub found_of : Looked → Session → Option Step → ℕ × Stop
found_of q s step = forward q (asked_of s step) most_turns s.made s.broke s.faulted

-- the hart of a stop; that which was told before, where it has none
abbrev pub hart_of_stop : ℕ → Stop → ℕ
hart_of_stop kept (S.Breaks h) = h
hart_of_stop kept (S.Faults h noted) = h
hart_of_stop kept (S.Steps h) = h
hart_of_stop kept S.Ends = kept
hart_of_stop kept S.Begins = kept
hart_of_stop kept S.Pauses = kept

-- whether a stop tells that a fault is next, and so no breakpoint there any more; and whether it tells one of the two
abbrev pub tells_fault : Stop → Bool
tells_fault (S.Faults h noted) = true
tells_fault (S.Breaks h) = false
tells_fault (S.Steps h) = false
tells_fault S.Ends = false
tells_fault S.Begins = false
tells_fault S.Pauses = false

abbrev pub tells_break : Stop → Bool
tells_break (S.Breaks h) = true
tells_break (S.Faults h noted) = true
tells_break (S.Steps h) = false
tells_break S.Ends = false
tells_break S.Begins = false
tells_break S.Pauses = false

-- the session where the run stopped
abbrev pub stopped : Session → ℕ × Stop → Session
stopped s found = record s {
  made = found.0;
  broke = tells_break found.1;
  faulted = tells_fault found.1;
  told = max s.told found.0;
  stop = found.1;
  shown = hart_of_stop s.shown found.1;
  followed = hart_of_stop s.followed found.1;
}
