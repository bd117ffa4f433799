-- What the debugger's process is given and how it ends.
use Rattle.std.specs.Prelude.{◌≡◌, ℕ, ◌⊎◌, List, Option}
use Rattle.mx_io.specs.Answer.{Answer}
use Rattle.mx_io.specs.Sink.{SinkState}
use Rattle.mx_io.specs.Store.{StoreState}
use Rattle.mx_commands.specs.declared.status.Status.{Status}
use Rattle.mx_commands.specs.Status.{number_of}
use Rattle.mx_commands.specs.Order.{Order}
use Rattle.mx_run.specs.Words.{debug_meaning}
use Rattle.mx_debugger.specs.Debugs.{Debugs}
use Rattle.mx_debugger.specs.Plainly.{CompletesSo, OverFiles, RefusesSo, SaysSo, TalksSo}

-- what a call promises, by what is asked
pub record Performs {S L : Type 0} (asked : Option Order) (state : S → StoreState) (gives : S → Answer → S → Type 0)
    (hears says : L → List ℕ → L → Type 0) (room : L → ℕ) (store stored : S) (line lined : L) (before now : SinkState)
    (status : Status) : Type 0 where
  pub answered : Debugs gives hears says room asked store stored line lined before now status
  pub talk : OverFiles (TalksSo hears says room asked line lined before now status) (state store) (state stored) status
  pub headline : OverFiles (SaysSo hears says asked line lined status) (state store) (state stored) status
  pub refused : OverFiles (RefusesSo asked line lined before now status) (state store) (state stored) status
  pub complete : CompletesSo hears says room asked (state store) (state stored) line lined before now status

-- the call was made with the words that were given, and the process ends with the number of its status; or memory for
-- the words was wanting, and nothing was read, heard or written
abbrev pub Executes : {S L : Type 0} → (List (List ℕ) → Type 0) → (S → StoreState) → (S → Answer → S → Type 0) →
    (L → List ℕ → L → Type 0) → (L → List ℕ → L → Type 0) → (L → ℕ) → S → S → L → L → SinkState → SinkState → ℕ → Type 0
Executes given state gives hears says room store stored line lined before now number =
    ((words : List (List ℕ)) × (status : Status) × given words
    × Performs (debug_meaning words) state gives hears says room store stored line lined before now status
    × (number ≡ number_of status))
    ⊎ ((number ≡ 10) × (stored ≡ store) × (lined ≡ line) × (now ≡ before))
