-- What a call of the debugger promises over a store that tells its files.
use Rattle.std.specs.Prelude.{◌≡◌, ◌≢◌, ◌≤◌, ℕ, IsTrue, List, length, Option, Some, Result, Ok, IfSome}
use Rattle.mx_io.specs.declared.Failed.{Failed}
use Rattle.mx_io.specs.Count.{Stays}
use Rattle.mx_io.specs.Sink.{SinkState}
use Rattle.mx_io.specs.Store.{FileMap, StoreState}
use Rattle.mx_io.specs.Texts.{AppendsWhole}
use Rattle.mx_model.specs.Run.{Schedule}
use Rattle.mx_model.specs.State.{State}
use Rattle.mx_manifest.specs.Plan.{Said}
use Rattle.mx_debug.specs.Session.{Looked}
use Rattle.mx_debug.specs.Talks.{Headline}
use Rattle.mx_commands.specs.declared.status.Status.{Status}
use Rattle.mx_commands.specs.declared.status.Status.TheVariants.{Ran, WantOfMemory}
use Rattle.mx_commands.specs.Order.{Order}
use Rattle.mx_commands.specs.Next.{Outcome}
use Rattle.mx_run.specs.Leads.{IsOutcome}
use Rattle.mx_run.specs.Plainly.{Boots, IsSchedule}
use Rattle.mx_run.specs.Words.{Go}
use Rattle.mx_debugger.specs.Debugs.{TalkEnds}
use Rattle.mx_debugger.specs.Looking.{looked_at}

-- a talk that came to its end
abbrev pub whole : Result (Unit {0}) Failed
whole = Ok tt

-- over a store that tells its files, where its count stays and memory isn't wanting: what is so over the files
abbrev pub OverFiles : (FileMap → Type 0) → StoreState → StoreState → Status → Type 0
OverFiles Holds store stored status =
    IfSome store.told (λ files. Stays store.faults stored.faults → status ≢ WantOfMemory → Holds files)

-- the talk was about this run, and nothing went to the report
pub record IsTalkOf {L : Type 0} (hears says : L → List ℕ → L → Type 0) (room : L → ℕ) (run : Looked) (line lined : L)
    (before now : SinkState) (status : Status) : Type 0 where
  pub report : now ≡ before
  pub talk : TalkEnds hears says room run line lined status

-- a manifest that boots, with its schedule: the talk is about the run of the two
abbrev pub TalksSo : {L : Type 0} → (L → List ℕ → L → Type 0) → (L → List ℕ → L → Type 0) → (L → ℕ) → Option Order →
    L → L → SinkState → SinkState → Status → FileMap → Type 0
TalksSo hears says room asked line lined before now status files =
    (o : Order) (plan : Said) (s : State) (schedule : Schedule) → asked ≡ Some o →
    (boots : Boots files o.file plan s) → IsSchedule files plan.quantum o.schedule schedule →
    IsTalkOf hears says room (looked_at o plan boots.images s schedule) line lined before now status

-- and over a line that tells, where the talk came to its end: some bytes were heard, and just what is said to these
-- was said
abbrev pub SaysSo : {L : Type 0} → (L → List ℕ → L → Type 0) → (L → List ℕ → L → Type 0) → Option Order → L → L →
    Status → FileMap → Type 0
SaysSo hears says asked line lined status files =
    (o : Order) (plan : Said) (s : State) (schedule : Schedule) → asked ≡ Some o →
    (boots : Boots files o.file plan s) → IsSchedule files plan.quantum o.schedule schedule → status ≡ Ran →
    Headline hears says (looked_at o plan boots.images s schedule) line lined whole

-- the call ended with this outcome's status and its report, and nothing was heard or said
pub record IsRefused {L : Type 0} (outcome : Outcome) (line lined : L) (before now : SinkState) (status : Status)
    : Type 0 where
  pub by : status ≡ outcome.status
  pub report : AppendsWhole before.written now.written outcome.texts.report
  pub quiet : lined ≡ line

-- what `run` refuses is refused as `run` does, where the report's count stays
abbrev pub RefusesSo : {L : Type 0} → Option Order → L → L → SinkState → SinkState → Status → FileMap → Type 0
RefusesSo asked line lined before now status files =
    (o : Order) (outcome : Outcome) → asked ≡ Some o → IsOutcome (Some (Go o)) files outcome → outcome.status ≢ Ran →
    Stays before.faults now.faults → IsRefused outcome line lined before now status

-- and surely so where the report has room for the line
abbrev pub RefusesSurely : {L : Type 0} → Option Order → L → L → SinkState → SinkState → Status → FileMap → Type 0
RefusesSurely asked line lined before now status files =
    (o : Order) (outcome : Outcome) → asked ≡ Some o → IsOutcome (Some (Go o)) files outcome → outcome.status ≢ Ran →
    length outcome.texts.report ≤ before.room →
    (now.faults ≡ before.faults) × IsRefused outcome line lined before now status

-- completeness: where every call of the store is sure to succeed its count is kept, and the same is so
abbrev pub CompletesSo : {L : Type 0} → (L → List ℕ → L → Type 0) → (L → List ℕ → L → Type 0) → (L → ℕ) → Option Order →
    StoreState → StoreState → L → L → SinkState → SinkState → Status → Type 0
CompletesSo hears says room asked store stored line lined before now status =
    IfSome store.told (λ files. IsTrue store.sure → (stored.faults ≡ store.faults) × (status ≢ WantOfMemory →
    TalksSo hears says room asked line lined before now status files
    × RefusesSurely asked line lined before now status files))
