-- What the process is given and how it ends.
use Rattle.std.specs.Prelude.{◌≡◌, ℕ, ◌⊎◌, List, [], ◌∷◌, drop, map, Result, Ok, Err, string_bytes, String}
use Rattle.std.specs.Vec.Iter.{into_iter_items}
use Rattle.std.specs.declared.vec.IntoIter.{IntoIter}
use Rattle.std.specs.declared.alloc.Global.{Global}
use Rattle.mx_io.specs.Answer.{Answer}
use Rattle.mx_io.specs.Store.{StoreState}
use Rattle.mx_turns.specs.Ends.{Sinks}
use Rattle.mx_commands.specs.declared.status.Status.{Status}
use Rattle.mx_commands.specs.Status.{number_of}
use Rattle.mx_run.specs.Promise.{Completeness, Headline}
use Rattle.mx_run.specs.Runs.{RunsPlainly}
use Rattle.mx_run.specs.Ran.{RanPlainly}
use Rattle.mx_run.specs.Refuses.{RefusesByLine}
use Rattle.mx_run.specs.Counts.{CountsSmoothly}
use Rattle.mx_run.specs.Resumes.{ResumesSmoothly}
use Rattle.mx_run.specs.Traces.{TracesSmoothly}
use Rattle.mx_run.specs.TwinRuns.{ComparesSmoothly}
use Rattle.mx_run.specs.Assembles.{AssemblesPlainly}
use Rattle.mx_run.specs.Audits.{AuditsPlainly}
use Rattle.mx_run.specs.Mills.{MillsPlainly}
use Rattle.mx_run.specs.Top.{Answered}
use Rattle.mx_commands.specs.Ends.{WritesNothing}
use Rattle.mx_run.specs.Words.{meaning}

-- the words after the program's name, or one empty word, which has no meaning, where they are not text
abbrev pub Given : {E : Type 0} → Result (IntoIter (String Global) Global) E → List (List ℕ) → Type 0
Given (Ok args) words = words ≡ drop 1 (map string_bytes (into_iter_items args))
Given (Err error) words = words ≡ [] ∷ []

-- what `mondrix` promises of a call with these words
pub record Performs {S : Type 0} (words : List (List ℕ)) (state : S → StoreState)
    (gives : S → Answer → S → Type 0) (store stored : S) (before now : Sinks) (status : Status) : Type 0 where
  pub answered : Answered (meaning words) gives store stored before now status
  pub headline : Headline (meaning words) (state store) (state stored) before now status
  pub run : RunsPlainly words (state store) (state stored) before now status
  pub ran : RanPlainly words (state store) (state stored) before now status
  pub counted : CountsSmoothly words (state store) (state stored) before now status
  pub resume : ResumesSmoothly words (state store) (state stored) before now status
  pub trace : TracesSmoothly words (state store) (state stored) before now status
  pub twin : ComparesSmoothly words (state store) (state stored) before now status
  pub asm : AssemblesPlainly words (state store) (state stored) before now status
  pub audit : AuditsPlainly words (state store) (state stored) before now status
  pub mill : MillsPlainly words (state store) (state stored) before now status
  pub refused : RefusesByLine words (state store) (state stored) before now status
  pub complete : Completeness (meaning words) (state store) (state stored) before now status

-- the call was made with the words that were given, and the process ends with the number of its status; or memory for the words
-- was wanting, and nothing was read or written
abbrev pub Executes : {S : Type 0} → (List (List ℕ) → Type 0) → (S → StoreState) → (S → Answer → S → Type 0) →
    S → S → Sinks → Sinks → ℕ → Type 0
Executes given state gives store stored before now number =
    ((words : List (List ℕ)) × (status : Status) × given words
    × Performs words state gives store stored before now status × (number ≡ number_of status))
    ⊎ ((number ≡ 10) × (stored ≡ store) × WritesNothing before now)
