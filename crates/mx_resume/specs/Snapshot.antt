-- What the bytes of a snapshot come to: what they store, where its maps fit the limit that is stored; or the one refusal.
-- The faults: docs/COMMANDS.md, "The snapshot".
use Rattle.std.specs.Prelude.{◌≡◌, ℕ, if◌then◌else◌, List, Result, Ok, Err}
use Rattle.mx_words.specs.declared.tables.Need.{Need}
use Rattle.mx_words.specs.Need.{within}
use Rattle.mx_any.specs.Machines.{meaning}
use Rattle.mx_model.specs.State.{flat, map_need}
use Rattle.mx_snapshot.specs.Fields.{stored_in}
use Rattle.mx_snapshot.specs.Reader.{Taken, Took, Fails}
use Rattle.mx_snapshot.specs.Resumed.{plan_of, state_of}
use Rattle.mx_snapshot.specs.Stored.{Stored}
use Rattle.mx_resume.specs.declared.resumed.Resumed.{Resumed}
use Rattle.mx_resume.specs.declared.refused.SnapshotRefused.{SnapshotRefused}
use Rattle.mx_resume.specs.declared.refused.SnapshotRefused.TheVariants.{Fault, TablesFull, NoMemory}

-- why nothing comes of them: the first fault, at the place of a field; or tables whose need exceeds the limit
pub data Unread : Type 0 where
  FaultAt : (at number : ℕ) → Unread
  NeedsMore : (needed limit : Need) → Unread

-- what the tables of the stored maps need
abbrev pub stored_need : Stored → Need
stored_need s = map_need (state_of s)

-- what is stored, where its maps fit
abbrev pub fitting : Stored → Result Stored Unread
fitting s =
    if within (stored_need s) s.head.limit then Ok s
    else Err (NeedsMore (stored_need s) s.head.limit)

abbrev pub of_taken : Taken Stored → Result Stored Unread
of_taken (Took s after) = fitting s
of_taken (Fails at number) = Err (FaultAt at number)

-- the first fault of the bytes, or the need of the maps where it exceeds the limit, or else what is stored
unfoldable pub snapshot_of : List ℕ → Result Stored Unread
snapshot_of bytes = of_taken (stored_in bytes)

-- a machine that is the state, and what is kept of its plan
pub record IsResumed (s : Stored) (r : Resumed) : Type 0 where
  pub machine : meaning r.machine ≡ flat (state_of s)
  pub plan : r.plan ≡ plan_of s

-- what a refusal tells: the first fault, or the need of the maps, which exceeds the limit; or that memory ended before
abbrev pub IsRefusedBy : Result Stored Unread → SnapshotRefused → Type 0
IsRefusedBy snapshot (Fault at number) = snapshot ≡ Err (FaultAt at number)
IsRefusedBy snapshot (TablesFull need limit) = snapshot ≡ Err (NeedsMore need limit)
IsRefusedBy snapshot NoMemory = Unit {0}
