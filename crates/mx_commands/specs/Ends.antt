-- How a command ends, and how its steps are followed.
-- The rules: docs/COMMANDS.md, "How texts leave".
use Rattle.std.specs.Prelude.{◌≡◌, ◌⊎◌, List}
use Rattle.mx_io.specs.Answer.{Answer, Talks}
use Rattle.mx_turns.specs.declared.fault.SinkFault.{SinkFault}
use Rattle.mx_turns.specs.declared.fault.SinkFault.TheVariants as F
use Rattle.mx_turns.specs.Ends.{Sinks, Holds, HoldsPrefix, HasRoom, CountsKept, IsSinkFault}
use Rattle.mx_commands.specs.declared.status.Status.{Status}
use Rattle.mx_commands.specs.declared.status.Status.TheVariants.{ConsoleFault, ReportFault, DumpFault, WantOfMemory}
use Rattle.mx_commands.specs.Finding.{Finding}
use Rattle.mx_commands.specs.Next.{Outcome, Next}
use Rattle.mx_commands.specs.Leads.{LeadsTo}

-- nothing was written
pub record WritesNothing (before now : Sinks) : Type 0 where
  pub console : now.console ≡ before.console
  pub report : now.report ≡ before.report
  pub dump : now.dump ≡ before.dump

-- the status of a sink's fault
abbrev pub fault_of : SinkFault → Status
fault_of F.Console = ConsoleFault
fault_of F.Report = ReportFault
fault_of F.Dump = DumpFault

-- status and texts are the outcome's, and no sink's count rose; or a sink failed, which is the status, and each holds a prefix
abbrev pub EndsBy : Outcome → Sinks → Sinks → Status → Type 0
EndsBy outcome before now result =
    ((result ≡ outcome.status) × Holds outcome.texts before now × CountsKept before now)
    ⊎ ((which : SinkFault) × (result ≡ fault_of which)
    × IsSinkFault which outcome.texts before now × HoldsPrefix outcome.texts before now)

-- a call ended by an outcome, surely with its status and its texts where the sinks have room for these
pub record Ends (outcome : Outcome) (before now : Sinks) (result : Status) : Type 0 where
  pub how : EndsBy outcome before now result
  pub sure : HasRoom outcome.texts before → (result ≡ outcome.status) × Holds outcome.texts before now
      × CountsKept before now

-- the same, or memory was wanting and nothing was written
abbrev pub EndsOrWants : Outcome → Sinks → Sinks → Status → Type 0
EndsOrWants outcome before now result = Ends outcome before now result
    ⊎ ((result ≡ WantOfMemory) × WritesNothing before now)

-- a step was followed: what the store gave leads to an outcome, by which the call ended, or memory was wanting and nothing was written
abbrev pub Continues : {S : Type 0} → (List Finding → Next) → (S → Answer → S → Type 0) → S → S →
    Sinks → Sinks → Status → Type 0
Continues step gives store stored before now result =
    (answers : List Answer) × Talks gives store answers stored
    × (((outcome : Outcome) × LeadsTo step answers outcome × Ends outcome before now result)
    ⊎ ((result ≡ WantOfMemory) × WritesNothing before now))

-- a step came to a later one: however that one is followed, the first one is followed
abbrev pub Comes : {S : Type 0} → (List Finding → Next) → (S → Answer → S → Type 0) → S → S →
    (List Finding → Next) → Type 0
Comes {S} step gives store stored later =
    (end : S) (before now : Sinks) (result : Status) →
    Continues later gives stored end before now result →
    Continues step gives store end before now result
