-- How the texts of a call leave through its three sinks, and what holds where a sink fails.
-- The rules: docs/COMMANDS.md, "How texts leave".
use Rattle.std.specs.Prelude.{◌≡◌, ℕ, ◌+◌, ◌<◌, ◌≤◌, ◌⊎◌, List, [], length, take, Result, Ok, Err, OnOk, IfErr, IsOk}
use Rattle.mx_io.specs.Count.{Rose}
use Rattle.mx_io.specs.Texts.{AppendsWhole, AppendsPrefix}
use Rattle.mx_io.specs.Sink.{SinkState}
use Rattle.mx_model.specs.State.{State, Flat, flat}
use Rattle.mx_tail.specs.Tail.{sent}
use Rattle.mx_turns.specs.declared.fault.SinkFault.{SinkFault}
use Rattle.mx_turns.specs.declared.fault.SinkFault.TheVariants as F

-- the three sinks at a moment
pub record Sinks : Type 0 where
  pub console : SinkState
  pub report : SinkState
  pub dump : SinkState

-- the three together
abbrev pub sinks : SinkState → SinkState → SinkState → Sinks
sinks console report dump = record { console = console; report = report; dump = dump }

-- the text of each sink; of a call that makes turns, how many at most, and after so many of them the console's text so far and
-- the first lines of the report, which may leave before the console's text has left whole
pub record Texts : Type 0 where
  pub console : List ℕ
  pub report : List ℕ
  pub dump : List ℕ
  pub turns : ℕ
  pub shown : ℕ → List ℕ
  pub told : ℕ → List ℕ

-- the texts of a call that makes no turn
abbrev pub still : List ℕ → List ℕ → List ℕ → Texts
still console report dump = record {
  console = console;
  report = report;
  dump = dump;
  turns = 0;
  shown = λ made. [];
  told = λ made. [];
}

-- each sink that tells holds what it held, followed by its text
pub record Holds (texts : Texts) (before now : Sinks) : Type 0 where
  pub console : AppendsWhole before.console.written now.console.written texts.console
  pub report : AppendsWhole before.report.written now.report.written texts.report
  pub dump : AppendsWhole before.dump.written now.dump.written texts.dump

-- each sink that tells holds what it held, followed by a prefix of its text
pub record HoldsPrefix (texts : Texts) (before now : Sinks) : Type 0 where
  pub console : AppendsPrefix before.console.written now.console.written texts.console
  pub report : AppendsPrefix before.report.written now.report.written texts.report
  pub dump : AppendsPrefix before.dump.written now.dump.written texts.dump

-- the counts of faults of the sinks are the same
pub record CountsKept (before now : Sinks) : Type 0 where
  pub console : now.console.faults ≡ before.console.faults
  pub report : now.report.faults ≡ before.report.faults
  pub dump : now.dump.faults ≡ before.dump.faults

-- each sink has room for its text
pub record HasRoom (texts : Texts) (before : Sinks) : Type 0 where
  pub console : length texts.console ≤ before.console.room
  pub report : length texts.report ≤ before.report.room
  pub dump : length texts.dump ≤ before.dump.room

-- a sink failed that holds so many bytes of its text, and not all
pub record FailsAt (bytes : ℕ) (text : List ℕ) (before now : SinkState) : Type 0 where
  pub within : bytes < length text
  pub put : AppendsWhole before.written now.written (take bytes text)
  pub rose : Rose before.faults now.faults

-- of a text that leaves by whole pieces during the turns so many bytes have left: all pieces of so many turns, and not all of one
-- turn more, or the turns are all
pub record LeavesAt (bytes : ℕ) (text : ℕ → List ℕ) (turns made : ℕ) : Type 0 where
  pub few : made ≤ turns
  pub pieces : length (sent (text made)) ≤ bytes
  pub next : (made < turns) × (bytes < length (sent (text (made + 1)))) ⊎ (made ≡ turns)

-- a sink took a text whole, and didn't fail
pub record Takes (text : List ℕ) (before now : SinkState) : Type 0 where
  pub whole : AppendsWhole before.written now.written text
  pub kept : now.faults ≡ before.faults

-- the whole pieces of a text had left, and its rest was put, or the sink failed then
abbrev pub Tells : List ℕ → SinkState → SinkState → Type 0
Tells text before now = Takes text before now
    ⊎ ((bytes : ℕ) × FailsAt bytes text before now × (length (sent text) ≤ bytes))

-- the console took the whole pieces of its text so far where turns were left, and otherwise its whole text
abbrev pub ShowsUpTo : Texts → ℕ → SinkState → SinkState → Type 0
ShowsUpTo texts made before now =
    ((made < texts.turns) × Takes (sent (texts.shown (made + 1))) before now)
    ⊎ ((made ≡ texts.turns) × Takes texts.console before now)

-- the first sink that failed ended the call: no turn was made after that one, and no other had failed. Where it was the console,
-- the report got its first lines of the turns before that one, and nothing else; where it was the report, the console got its text
-- so far, or its whole text where it failed after the last turn; the dump comes last
abbrev pub IsSinkFault : SinkFault → Texts → Sinks → Sinks → Type 0
IsSinkFault F.Console texts before now =
    (made : ℕ) × (bytes : ℕ) × FailsAt bytes texts.console before.console now.console
    × LeavesAt bytes texts.shown texts.turns made
    × Tells (texts.told made) before.report now.report × (now.dump ≡ before.dump)
IsSinkFault F.Report texts before now =
    (made : ℕ) × (bytes : ℕ) × FailsAt bytes texts.report before.report now.report
    × LeavesAt bytes texts.told texts.turns made
    × ShowsUpTo texts made before.console now.console × (now.dump ≡ before.dump)
IsSinkFault F.Dump texts before now =
    (bytes : ℕ) × FailsAt bytes texts.dump before.dump now.dump
    × Takes texts.console before.console now.console
    × Takes texts.report before.report now.report

-- the texts left whole, and no count rose; or the first sink that failed ended the call; where the sinks have room nothing fails
pub record Leave {A : Type 0} (texts : Texts) (before now : Sinks) (result : Result A SinkFault)
    : Type 0 where
  pub whole : OnOk result (Holds texts before now × CountsKept before now)
  pub fault : IfErr result (λ which. IsSinkFault which texts before now × HoldsPrefix texts before now)
  pub sure : HasRoom texts before → IsOk result

-- a sink failed while turns were made: that was the last turn that was made, or it failed after all of them
pub record StopsTurns (made bytes : ℕ) (text : List ℕ) (so_far : ℕ → List ℕ) (turns : ℕ) (states : ℕ → State)
    (before now : SinkState) (machine : Flat) : Type 0 where
  pub fails : FailsAt bytes text before now
  pub leaves : LeavesAt bytes so_far turns made
  pub last : made < turns → machine ≡ flat (states (made + 1))
  pub all : made ≡ turns → machine ≡ flat (states turns)

-- the turns that a call made of a machine, by the state after each number of them: all; or where the console or the report failed
-- none after the one at which it failed
abbrev pub MakesTurns : {A : Type 0} → Texts → (ℕ → State) → Sinks → Sinks → Flat → Result A SinkFault → Type 0
MakesTurns texts states before now machine (Ok a) = machine ≡ flat (states texts.turns)
MakesTurns texts states before now machine (Err F.Console) =
    (made : ℕ) × (bytes : ℕ)
    × StopsTurns made bytes texts.console texts.shown texts.turns states before.console now.console machine
MakesTurns texts states before now machine (Err F.Report) =
    (made : ℕ) × (bytes : ℕ)
    × StopsTurns made bytes texts.report texts.told texts.turns states before.report now.report machine
MakesTurns texts states before now machine (Err F.Dump) = machine ≡ flat (states texts.turns)
