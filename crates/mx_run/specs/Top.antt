-- How a call of the program ends.
-- The rules: docs/PROMISES.md, "Three clauses in plain words".
use Rattle.std.specs.Prelude.{◌≡◌, ◌⊎◌, List, Option, IsSome}
use Rattle.mx_io.specs.Answer.{Answer, Talks}
use Rattle.mx_turns.specs.Ends.{Sinks}
use Rattle.mx_commands.specs.declared.status.Status.{Status}
use Rattle.mx_commands.specs.declared.status.Status.TheVariants.{WantOfMemory}
use Rattle.mx_run.specs.Words.{Request}
use Rattle.mx_commands.specs.Next.{Outcome}
use Rattle.mx_run.specs.Leads.{Leads}
use Rattle.mx_commands.specs.Ends.{WritesNothing, EndsBy, Ends}

-- memory was wanting, the words have a meaning, and nothing was written
abbrev pub Wants : Option Request → Sinks → Sinks → Status → Type 0
Wants asked before now result = (result ≡ WantOfMemory) × IsSome asked × WritesNothing before now

-- over every store: there are answers, just those that it gave in this call, one after another; they lead to an outcome, by
-- which the call ended, or memory was wanting
abbrev pub Answered : {S : Type 0} → Option Request → (S → Answer → S → Type 0) → S → S → Sinks →
    Sinks → Status → Type 0
Answered asked gives store stored before now result =
    (answers : List Answer) × Talks gives store answers stored
    × (((outcome : Outcome) × Leads asked answers outcome × EndsBy outcome before now result)
    ⊎ Wants asked before now result)

-- what was asked was answered by what the store gave
abbrev pub Reacts : {S : Type 0} → Option Request → (S → Answer → S → Type 0) → S → S → Sinks →
    Sinks → Status → Type 0
Reacts asked gives store stored before now result =
    (answers : List Answer) × Talks gives store answers stored
    × (((outcome : Outcome) × Leads asked answers outcome × Ends outcome before now result)
    ⊎ Wants asked before now result)
