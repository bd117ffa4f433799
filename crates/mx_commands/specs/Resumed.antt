-- A snapshot as a step of a command: its file is read, and the rest follows from the plan and the state that it gives back, or the call
-- ends with its one refusal.
-- The rules: docs/COMMANDS.md, "The snapshot".
use Rattle.std.specs.Prelude.{ℕ, List, Result, Ok, Err}
use Rattle.mx_words.specs.Limits.{most_snapshot_bytes}
use Rattle.mx_model.specs.State.{State}
use Rattle.mx_snapshot.specs.Kept.{KeptPlan}
use Rattle.mx_snapshot.specs.Resumed.{plan_of, state_of}
use Rattle.mx_snapshot.specs.Stored.{Stored}
use Rattle.mx_resume.specs.Snapshot.{Unread, FaultAt, NeedsMore, snapshot_of}
use Rattle.mx_commands.specs.declared.status.FileRole.TheVariants.{Snapshot}
use Rattle.mx_commands.specs.declared.status.Status.{Status}
use Rattle.mx_commands.specs.declared.status.Status.TheVariants.{TablesFull, SnapshotFault}
use Rattle.mx_commands.specs.Finding.{Finding}
use Rattle.mx_commands.specs.Next.{Wanted, Next, End, after_file, refusal}

-- a snapshot; one over its limit has the first of the faults
abbrev pub snapshot_file : List ℕ → Wanted
snapshot_file name = record {
  role = Snapshot;
  name = name;
  most = most_snapshot_bytes;
  large = SnapshotFault 0 1;
}

-- the status of a snapshot's refusal
abbrev pub unread_by : Unread → Status
unread_by (FaultAt at number) = SnapshotFault at number
unread_by (NeedsMore need limit) = TablesFull need limit

-- what follows from what is kept of a plan, and a state
abbrev pub Onward : Type 0
Onward = KeptPlan → State → List Finding → Next

-- what is stored goes on; otherwise there is one refusal
abbrev pub resumed : List ℕ → Onward → Result Stored Unread → List Finding → Next
resumed name rest (Ok stored) found = rest (plan_of stored) (state_of stored) found
resumed name rest (Err why) found = End (refusal name (unread_by why))

-- the snapshot of this name is read, and the rest follows from the plan and the state that it gives back
abbrev pub after_snapshot : List ℕ → Onward → List Finding → Next
after_snapshot name rest =
    after_file (snapshot_file name) (λ bytes. resumed name rest (snapshot_of bytes))
