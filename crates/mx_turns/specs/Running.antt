-- A run whose texts leave through buffers: what holds between two turns, and what holds where a sink failed.
use Rattle.std.specs.Prelude.{◌≡◌, ℕ, false, ◌+◌, ◌/◌, ◌%◌, ◌<◌, ◌≤◌, ◌⊎◌, List, [], ◌++◌, length, drop, option_to_list, Option, Some, None}
use Rattle.std.specs.Prelude.{Result, Ok, Err, OnOk, if◌then◌else◌}
use Rattle.mx_io.specs.Texts.{AppendsWhole}
use Rattle.mx_io.specs.Sink.{SinkState}
-- whether a turn of a kind can add something to the texts or halt its hart
pub use Rattle.mx_laws.specs.Quiet.{may_tell}
use Rattle.mx_model.specs.Events.{Events}
use Rattle.mx_model.specs.Run.{Schedule, ByQuantum, ByBytes, hart_of, is_over, all_halted, made_of, turn, run}
use Rattle.mx_model.specs.State.{Core, State, Flat, flat}
use Rattle.mx_model.specs.declared.values.Note.{Note}
use Rattle.mx_tail.specs.Tail.{sent, held}
use Rattle.mx_turns.specs.declared.fault.SinkFault.{SinkFault}
use Rattle.mx_turns.specs.declared.fault.SinkFault.TheVariants as F
use Rattle.mx_turns.specs.declared.pace.Pace.{Pace}
use Rattle.mx_turns.specs.declared.pace.Pace.TheVariants as pace
use Rattle.mx_turns.specs.declared.pace.Schedule as turns
use Rattle.mx_turns.specs.declared.pace.Schedule.TheVariants as code
use Rattle.mx_turns.specs.declared.task.Task.{Task}
use Rattle.mx_turns.specs.declared.turns.Telling.{Telling}
use Rattle.mx_turns.specs.declared.turns.Telling.TheVariants as telling
use Rattle.mx_snapshot.specs.Kept.{IsOfPlan, KeptPlan}
use Rattle.mx_turns.specs.Ends.{FailsAt, Leave, MakesTurns, Texts, sinks}
use Rattle.mx_turns.specs.Runs.{note_lines, ran, undumped}

-- a text was put on a sink whole
pub record Put (before now : SinkState) (text : List ℕ) : Type 0 where
  pub whole : AppendsWhole before.written now.written text
  pub kept : now.faults ≡ before.faults
  pub sure : length text ≤ before.room → before.room ≤ now.room + length text

-- putting a text on a sink failed after so many of its bytes
pub record Breaks (bytes : ℕ) (before now : SinkState) (text : List ℕ) : Type 0 where
  pub fails : FailsAt bytes text before now
  pub tight : length text ≤ before.room → ⊥

-- a text was put on a sink whole, or not
abbrev pub PutOrBreaks : SinkState → SinkState → List ℕ → Type 0
PutOrBreaks before now text = Put before now text ⊎ ((bytes : ℕ) × Breaks bytes before now text)

-- a text was added to what a buffer held: the whole pieces left, and the rest is held
pub record Moves (before : List ℕ) (old new : SinkState) (after text : List ℕ) : Type 0 where
  pub put : Put old new (sent (before ++ text))
  pub kept : after ≡ held (before ++ text)

-- the schedule that the code keeps
abbrev pub schedule_of : turns.Schedule → Schedule
schedule_of (code.Quantum quantum) = ByQuantum quantum
schedule_of (code.Bytes bytes) = ByBytes bytes.now

-- the texts of what a run is asked
abbrev pub texts_of : KeptPlan → Task → State → Texts
texts_of kept task s = ran kept task.options task.dump task.steps (schedule_of task.schedule) s

-- the state after so many of its turns
abbrev pub states_of : Task → State → ℕ → State
states_of task s made = run (schedule_of task.schedule) made s

-- a quantum has turns
abbrev pub HasTurns : turns.Schedule → Type 0
HasTurns (code.Quantum quantum) = 1 ≤ quantum
HasTurns (code.Bytes bytes) = Unit {0}

-- the harts take their quanta in order: the hart whose turn is next, and how many turns of its quantum are left
pub record IsRound (quantum : ℕ) (c : Core) (whole last next rest : ℕ) : Type 0 where
  pub some : 1 ≤ quantum
  pub same : whole ≡ quantum
  pub harts : last + 1 ≡ length c.harts
  pub turn : next ≡ c.turns / quantum % length c.harts
  pub left : rest + c.turns % quantum ≡ quantum

-- a schedule where so many turns were made
abbrev pub IsPace : Schedule → Core → Pace → Type 0
IsPace (ByQuantum quantum) c pace.Alone = length c.harts ≡ 1
IsPace (ByQuantum quantum) c (pace.Quantum whole last hart left)
    = IsRound quantum c whole last hart left
IsPace (ByQuantum quantum) c (pace.Bytes bytes) = ⊥
IsPace (ByBytes names) c pace.Alone = ⊥
IsPace (ByBytes names) c (pace.Quantum whole last hart left) = ⊥
IsPace (ByBytes names) c (pace.Bytes bytes) = bytes.now ≡ drop c.turns names

-- the hart that makes the next turn, or none where the schedule is at its end
abbrev pub named : Schedule → Core → Option ℕ
named schedule c = if is_over schedule c.turns then None else Some (hart_of schedule c)

-- the next turns, at least one and at most so many, are a hart's
pub record IsRow (schedule : Schedule) (c : Core) (most hart turns : ℕ) : Type 0 where
  pub some : 1 ≤ turns
  pub few : turns ≤ most
  pub each : (j : ℕ) → j < turns → (e : Core) → e.turns ≡ c.turns + j →
      length e.harts ≡ length c.harts → named schedule e ≡ Some hart

-- a hart and how many of the next turns are its own, or none where the schedule is at its end
abbrev pub IsNamed : Schedule → Core → ℕ → Option (ℕ × ℕ) → Type 0
IsNamed schedule c most None = named schedule c ≡ None
IsNamed schedule c most (Some next) = IsRow schedule c most next.0 next.1

-- the next change of a schedule comes no sooner than after so many turns
abbrev pub Leaves : Pace → ℕ → Type 0
Leaves pace.Alone turns = Unit {0}
Leaves (pace.Quantum whole last hart left) turns = turns ≤ left
Leaves (pace.Bytes bytes) turns = turns ≤ 1

-- the same schedule so many turns later
abbrev pub PacesOn : Schedule → Core → ℕ → Pace → Type 0
PacesOn schedule c turns pace = (e : Core) → e.turns ≡ c.turns + turns →
    length e.harts ≡ length c.harts → IsPace schedule e pace

-- the four states of a run beside its state: the console and what its buffer holds, the report and what its buffer holds
pub record Places : Type 0 where
  pub console : SinkState
  pub shown : List ℕ
  pub report : SinkState
  pub told : List ℕ

abbrev pub places : SinkState → List ℕ → SinkState → List ℕ → Places
places console shown report told = record {
  console = console;
  shown = shown;
  report = report;
  told = told;
}

-- a text was put through the console's buffer and lines through the report's; where a sink failed nothing was put after that
abbrev pub ShowsOrStops : {A : Type 0} → List ℕ → List ℕ → Places → Places →
    Result A SinkFault → Type 0
ShowsOrStops text lines before now (Ok a) =
    Moves before.shown before.console now.console now.shown text
    × Moves before.told before.report now.report now.told lines
ShowsOrStops text lines before now (Err F.Console) =
    ((bytes : ℕ) × Breaks bytes before.console now.console (sent (before.shown ++ text)))
    × (now.report ≡ before.report) × (now.told ≡ before.told)
ShowsOrStops text lines before now (Err F.Report) =
    Moves before.shown before.console now.console now.shown text
    × ((bytes : ℕ) × Breaks bytes before.report now.report (sent (before.told ++ lines)))
ShowsOrStops text lines before now (Err F.Dump) = ⊥

-- turns were made, and the texts so far were put through the buffers, which held nothing at first
pub record HasTexts (s : State) (lines : List ℕ) (machine : Flat) (before now : Places) : Type 0 where
  pub state : machine ≡ flat s
  pub console : Moves [] before.console now.console now.shown s.console
  pub report : Moves [] before.report now.report now.told lines

-- the lines that a run has told: those of notes, or none
abbrev pub told_by : Telling → State → List ℕ
told_by telling.Notes s = note_lines s.notes
told_by telling.Nothing s = []

-- what a turn adds to them
abbrev pub adds_by : Telling → Option Note → List ℕ
adds_by telling.Notes added = note_lines (option_to_list added)
adds_by telling.Nothing added = []

-- turns of a run were made, and what it tells was put through the buffers
abbrev pub HasRun : Telling → State → Flat → Places → Places → Type 0
HasRun tells s machine before now = HasTexts s (told_by tells s) machine before now

-- a sink failed at the turn after so many, and that one was made, no more: the console's, whose report has the lines of the turns
-- before it; or the report's, whose console has the bytes of that turn too
abbrev pub StopsAt : (ℕ → State) → (ℕ → List ℕ) → ℕ → Flat → Places → Places → SinkFault → Type 0
StopsAt states lines made machine before now F.Console =
    (machine ≡ flat (states (made + 1)))
    × ((bytes : ℕ) × Breaks bytes before.console now.console (sent (states (made + 1)).console)
    × (length (sent (states made).console) ≤ bytes))
    × Moves [] before.report now.report now.told (lines made)
StopsAt states lines made machine before now F.Report =
    (machine ≡ flat (states (made + 1)))
    × ((bytes : ℕ) × Breaks bytes before.report now.report (sent (lines (made + 1)))
    × (length (sent (lines made)) ≤ bytes))
    × Moves [] before.console now.console now.shown (states (made + 1)).console
StopsAt states lines made machine before now F.Dump = ⊥

-- a call that makes at most so many turns
abbrev pub RunsOrStops : {A : Type 0} → (ℕ → State) → (ℕ → List ℕ) → ℕ → Flat → Places → Places →
    Result A SinkFault → Type 0
RunsOrStops states lines turns machine before now (Ok a)
    = HasTexts (states turns) (lines turns) machine before now
RunsOrStops states lines turns machine before now (Err which)
    = (made : ℕ) × (made < turns) × StopsAt states lines made machine before now which

-- a run begins: nothing was written or is held
pub record Begins (s : State) (machine : Flat) (places : Places) : Type 0 where
  pub state : machine ≡ flat s
  pub console : s.console ≡ []
  pub notes : s.notes ≡ []
  pub shown : places.shown ≡ []
  pub told : places.told ≡ []

-- a turn of hart h in a state: the flat state afterwards, and what is appended
pub record IsTurnOf (s : State) (h : ℕ) (machine : Flat) (events : Events) : Type 0 where
  pub state : machine ≡ flat (turn s h)
  pub bytes : events.bytes ≡ (made_of s h).console
  pub note : events.note ≡ (made_of s h).note

-- a turn that added nothing, and after which some hart can go on if one could before
pub record GoesOn (c : Core) (events : Events) (e : Core) : Type 0 where
  pub bytes : events.bytes ≡ []
  pub note : events.note ≡ None
  pub going : all_halted c ≡ false → all_halted e ≡ false

-- what so many turns keep and count
pub record IsLater (f : Flat) (n : ℕ) (g : Flat) : Type 0 where
  pub turns : g.core.turns ≡ f.core.turns + n
  pub kind : g.core.kind ≡ f.core.kind
  pub limit : g.core.limit ≡ f.core.limit
  pub buffer : g.core.buffer ≡ f.core.buffer
  pub modules : length g.core.modules ≡ length f.core.modules
  pub harts : length g.core.harts ≡ length f.core.harts

-- what the turns of a run keep
pub record KeepsShape (f g : Flat) : Type 0 where
  pub kind : g.core.kind ≡ f.core.kind
  pub limit : g.core.limit ≡ f.core.limit
  pub buffer : g.core.buffer ≡ f.core.buffer
  pub modules : length g.core.modules ≡ length f.core.modules

-- what the buffers held was put, the console's and then the report's with these lines, or one of the two couldn't be put; where the
-- console's couldn't, what the report's buffer held was put
abbrev pub Closes : {A : Type 0} → List ℕ → Places → Places → Result A SinkFault → Type 0
Closes lines before now (Ok a) =
    Put before.console now.console before.shown
    × Put before.report now.report (before.told ++ lines)
Closes lines before now (Err F.Console) =
    ((bytes : ℕ) × Breaks bytes before.console now.console before.shown)
    × PutOrBreaks before.report now.report before.told
Closes lines before now (Err F.Report) =
    Put before.console now.console before.shown
    × ((bytes : ℕ) × Breaks bytes before.report now.report (before.told ++ lines))
Closes lines before now (Err F.Dump) = ⊥

-- a state without console bytes and notes
pub record IsNew (s : State) : Type 0 where
  pub console : s.console ≡ []
  pub notes : s.notes ≡ []

-- the turns of a run were made, and its console and report left, or one of them stopped it
pub record RunsOut {A : Type 0} (kept : KeptPlan) (task : Task) (f g : Flat) (console shown : SinkState)
    (report told : SinkState) (result : Result A SinkFault) : Type 0 where
  pub ends : (s : State) → IsNew s → f ≡ flat s → (dump : SinkState) →
      Leave (undumped (texts_of kept task s)) (sinks console report dump) (sinks shown told dump) result
      × MakesTurns (undumped (texts_of kept task s)) (states_of task s) (sinks console report dump)
      (sinks shown told dump) g result
  pub plan : OnOk result (IsOfPlan kept g)
