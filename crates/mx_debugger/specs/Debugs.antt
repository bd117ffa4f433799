-- How a call of the debugger ends, over every store and every line.
use Rattle.std.specs.Prelude.{◌≡◌, ℕ, ◌⊎◌, List, [], Option, Some, None, Result, Ok, Err}
use Rattle.mx_io.specs.declared.Failed.{Failed}
use Rattle.mx_io.specs.Answer.{Answer}
use Rattle.mx_io.specs.Sink.{SinkState}
use Rattle.mx_model.specs.Run.{Schedule}
use Rattle.mx_model.specs.State.{State}
use Rattle.mx_manifest.specs.Plan.{Said}
use Rattle.mx_turns.specs.Ends.{sinks}
use Rattle.mx_debug.specs.Session.{Looked}
use Rattle.mx_debug.specs.Talks.{Answered}
use Rattle.mx_commands.specs.declared.status.Status.{Status}
use Rattle.mx_commands.specs.declared.status.Status.TheVariants.{Ran, Usage, ConsoleFault}
use Rattle.mx_commands.specs.Order.{Order}
use Rattle.mx_commands.specs.Next.{End, Outcome, refusal}
use Rattle.mx_commands.specs.Commands.{scheduled}
use Rattle.mx_commands.specs.Ends.{Comes, Continues, Ends}
use Rattle.mx_debugger.specs.Looking.{Fixes, Made, looked_at, looking}

-- the status of a call by how its talk came out
abbrev pub status_of : Result (Unit {0}) Failed → Status
status_of (Ok none) = Ran
status_of (Err failed) = ConsoleFault

-- the talk about a run came to its end, or the line failed
pub record TalkEnds {L : Type 0} (hears says : L → List ℕ → L → Type 0) (room : L → ℕ) (run : Looked) (line lined : L)
    (status : Status) : Type 0 where
  pub result : Result (Unit {0}) Failed
  pub answered : Answered hears says room run line lined result
  pub by : status ≡ status_of result

-- what the store gave fixes a run, the talk was about that one, and nothing went to the report
pub record TalksOfRun {S L : Type 0} (gives : S → Answer → S → Type 0) (hears says : L → List ℕ → L → Type 0)
    (room : L → ℕ) (o : Order) (store stored : S) (line lined : L) (before now : SinkState) (status : Status)
    : Type 0 where
  pub plan : Said
  pub run : Looked
  pub fixed : Fixes gives store stored o plan run
  pub talk : TalkEnds hears says room run line lined status
  pub report : now ≡ before

-- the call ended before there was a run: nothing was heard or said, and it ended as its step ends, whatever texts may
-- be made of a run; or memory was wanting and nothing was written
pub record EndsBefore {S L : Type 0} (gives : S → Answer → S → Type 0) (o : Order) (store stored : S) (line lined : L)
    (before now : SinkState) (status : Status) : Type 0 where
  pub quiet : lined ≡ line
  pub ends : (made : Made) (console dump : SinkState) →
      Continues (looking o made) gives store stored (sinks console before dump) (sinks console now dump) status

-- the words have no meaning: nothing was read, heard or said, and the report is the line that says so
pub record HasNoMeaning {S L : Type 0} (store stored : S) (line lined : L) (before now : SinkState) (status : Status)
    : Type 0 where
  pub unread : stored ≡ store
  pub quiet : lined ≡ line
  pub ends : (console dump : SinkState) →
      Ends (refusal [] Usage) (sinks console before dump) (sinks console now dump) status

-- what was asked was answered
abbrev pub Debugs : {S L : Type 0} → (S → Answer → S → Type 0) → (L → List ℕ → L → Type 0) →
    (L → List ℕ → L → Type 0) → (L → ℕ) → Option Order → S → S → L → L → SinkState → SinkState → Status → Type 0
Debugs gives hears says room None store stored line lined before now status =
    HasNoMeaning store stored line lined before now status
Debugs gives hears says room (Some o) store stored line lined before now status =
    TalksOfRun gives hears says room o store stored line lined before now status
    ⊎ EndsBefore gives o store stored line lined before now status

-- a plan with images and its state at boot are there: the talk is about the run of their order, by the schedule that was
-- taken; or the call ended
abbrev pub DebugsLoaded : {S L : Type 0} → (S → Answer → S → Type 0) → (L → List ℕ → L → Type 0) →
    (L → List ℕ → L → Type 0) → (L → ℕ) → Order → Said → List (List ℕ) → State → S → S → L → L → SinkState → SinkState →
    Status → Type 0
DebugsLoaded gives hears says room o plan images s store stored line lined before now status =
    ((schedule : Schedule)
    × ((made : Schedule → Outcome) →
    Comes (scheduled plan.quantum made o.schedule) gives store stored (λ more. End (made schedule)))
    × TalkEnds hears says room (looked_at o plan images s schedule) line lined status × (now ≡ before))
    ⊎ ((lined ≡ line) × ((made : Schedule → Outcome) (console dump : SinkState) →
    Continues (scheduled plan.quantum made o.schedule) gives store stored
    (sinks console before dump) (sinks console now dump) status))
