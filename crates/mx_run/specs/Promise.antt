-- What the top call promises over a store that tells its files.
-- The rules: docs/PROMISES.md, "Three clauses in plain words".
use Rattle.std.specs.Prelude.{◌≡◌, ◌≢◌, ◌⊎◌, IsTrue, Option, IfSome}
use Rattle.mx_io.specs.Count.{Stays}
use Rattle.mx_io.specs.Store.{FileMap, StoreState}
use Rattle.mx_turns.specs.Ends.{Sinks, Holds, HasRoom, CountsKept}
use Rattle.mx_commands.specs.declared.status.Status.{Status}
use Rattle.mx_commands.specs.declared.status.Status.TheVariants.{WantOfMemory}
use Rattle.mx_run.specs.Words.{Request}
use Rattle.mx_commands.specs.Next.{Outcome}
use Rattle.mx_run.specs.Leads.{IsOutcome}

-- the counts of faults stay
pub record CountsStay (s t : StoreState) (before now : Sinks) : Type 0 where
  pub store : Stays s.faults t.faults
  pub console : Stays before.console.faults now.console.faults
  pub report : Stays before.report.faults now.report.faults
  pub dump : Stays before.dump.faults now.dump.faults

-- the status and the texts of the outcome
abbrev pub Gives : Outcome → Sinks → Sinks → Status → Type 0
Gives outcome before now result = (result ≡ outcome.status) × Holds outcome.texts before now

-- over a store that tells its files, where the counts stay and memory is not wanting: what is so over the files
abbrev pub Smoothly : (FileMap → Sinks → Sinks → Status → Type 0) → StoreState → StoreState → Sinks → Sinks → Status → Type 0
Smoothly Holds store stored before now result =
    IfSome store.told (λ files. CountsStay store stored before now → result ≢ WantOfMemory → Holds files before now result)

-- the headline: over a store that tells, where the counts stay and memory is not wanting, the status and each sink's text
-- are those of the outcome to which what is asked leads over the files
abbrev pub Headline : Option Request → StoreState → StoreState → Sinks → Sinks → Status → Type 0
Headline asked store stored before now result =
    IfSome store.told (λ files. CountsStay store stored before now → result ≢ WantOfMemory →
    (outcome : Outcome) × IsOutcome asked files outcome × Gives outcome before now result)

-- completeness: where every call of the store is sure to succeed and each sink has room for its text, the counts are kept,
-- and the outcome is given or memory is wanting
abbrev pub Completeness : Option Request → StoreState → StoreState → Sinks → Sinks → Status → Type 0
Completeness asked store stored before now result =
    IfSome store.told (λ files. (outcome : Outcome) → IsOutcome asked files outcome →
    IsTrue store.sure → HasRoom outcome.texts before →
    (stored.faults ≡ store.faults) × CountsKept before now
    × ((result ≡ WantOfMemory) ⊎ Gives outcome before now result))
