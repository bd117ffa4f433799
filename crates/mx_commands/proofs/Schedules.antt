-- A run that goes on from a snapshot is refused for nothing but its schedule.
use Rattle.std.proofs.Common.{◌≡◌, ℕ, List, [], ◌∷◌, Option, Some, None, Result, Ok, Err, refl, sym, ◌∙◌}
use Rattle.mx_model.specs.Run.{Schedule, ByQuantum, ByBytes}
use Rattle.mx_manifest.specs.declared.fault.BootFault.{BootFault}
use Rattle.mx_manifest.specs.declared.fault.Key.TheVariants as key
use Rattle.mx_manifest.specs.declared.fault.Part.TheVariants as part
use Rattle.mx_snapshot.specs.Resumed.{plan_of, state_of}
use Rattle.mx_snapshot.specs.Stored.{Stored}
use Rattle.mx_resume.specs.Snapshot.{Unread, FaultAt, NeedsMore, snapshot_of}
use Rattle.mx_commands.specs.declared.status.Status.TheVariants.{Ran, Refused, TablesFull, StoreFault, ShortFile, NoFile, SnapshotFault}
use Rattle.mx_commands.specs.declared.status.FileRole.TheVariants.{Schedule as ScheduleRole, Snapshot as SnapshotRole}
use Rattle.mx_commands.specs.Order.{Order}
use Rattle.mx_commands.specs.Finding.{Finding, Absent, Large, Short, Broken, Whole}
use Rattle.mx_commands.specs.Next.{Outcome, Next, End}
use Rattle.mx_commands.specs.Boots.{size_fault}
use Rattle.mx_commands.specs.Resumed.{resumed}
use Rattle.mx_commands.specs.Commands.{scheduled, run_of, run_from, resumed_run}
use Rattle.mx_commands.proofs.Leads.{read_end}
use Rattle.mx_commands.proofs.StepCauses.{status_same}

-- where these findings end a step with `Refused`, it is for the schedule's size
abbrev pub IsForSchedule : (List Finding → Next) → List Finding → Type 0
IsForSchedule step found = (outcome : Outcome) (fault : BootFault) → step found ≡ End outcome → outcome.status ≡ Refused fault
    → fault ≡ size_fault part.Schedule 0 key.NoKey

-- where a call ends well
other : (outcome ended : Outcome) (fault : BootFault) → End ended ≡ End outcome → ended.status ≡ Ran → outcome.status ≡ Refused fault
    → Ran ≡ Refused fault
other outcome ended fault end is refused = sym is ∙ sym (status_same end) ∙ refused

schedule_refused : (quantum : ℕ) (made : Schedule → Outcome) → ((schedule : Schedule) → (made schedule).status ≡ Ran)
    → (name : Option (List ℕ)) (found : List Finding)
    → IsForSchedule (scheduled quantum made name) found
schedule_refused quantum made ran None found outcome fault end refused =
    let e : Ran ≡ Refused fault = other outcome (made (ByQuantum quantum)) fault end (ran (ByQuantum quantum)) refused in cc
schedule_refused quantum made ran (Some name) [] outcome fault end refused = absurd (read_end end)
schedule_refused quantum made ran (Some name) (Absent ∷ more) outcome fault end refused = let e : NoFile ScheduleRole ≡ Refused fault =
    sym (status_same end) ∙ refused in cc
schedule_refused quantum made ran (Some name) (Large ∷ more) outcome fault end refused =
    let e : Refused (size_fault part.Schedule 0 key.NoKey) ≡ Refused fault = sym (status_same end) ∙ refused in cc
schedule_refused quantum made ran (Some name) (Short told got ∷ more) outcome fault end refused =
    let e : ShortFile ScheduleRole told got ≡ Refused fault = sym (status_same end) ∙ refused in cc
schedule_refused quantum made ran (Some name) (Broken ∷ more) outcome fault end refused = let e : StoreFault ≡ Refused fault =
    sym (status_same end) ∙ refused in cc
schedule_refused quantum made ran (Some name) (Whole bytes ∷ more) outcome fault end refused =
    let e : Ran ≡ Refused fault = other outcome (made (ByBytes bytes)) fault end (ran (ByBytes bytes)) refused in cc

stored_refused : (o : Order) (stored : Result Stored Unread) (found : List Finding)
    → IsForSchedule (resumed o.file (run_from o) stored) found
stored_refused o (Ok stored) found outcome fault end refused =
    schedule_refused (plan_of stored).quantum (run_of o (plan_of stored) (state_of stored)) (λ schedule. refl) o.schedule found outcome
    fault end refused
stored_refused o (Err (FaultAt at number)) found outcome fault end refused = let e : SnapshotFault at number ≡ Refused fault =
    sym (status_same end) ∙ refused in cc
stored_refused o (Err (NeedsMore need limit)) found outcome fault end refused = let e : TablesFull need limit ≡ Refused fault =
    sym (status_same end) ∙ refused in cc

pub run_refused : (o : Order) (found : List Finding) → IsForSchedule (resumed_run o) found
run_refused o [] outcome fault end refused = absurd (read_end end)
run_refused o (Absent ∷ more) outcome fault end refused = let e : NoFile SnapshotRole ≡ Refused fault = sym (status_same end) ∙ refused in
    cc
run_refused o (Large ∷ more) outcome fault end refused = let e : SnapshotFault 0 1 ≡ Refused fault = sym (status_same end) ∙ refused in cc
run_refused o (Short told got ∷ more) outcome fault end refused = let e : ShortFile SnapshotRole told got ≡ Refused fault =
    sym (status_same end) ∙ refused in cc
run_refused o (Broken ∷ more) outcome fault end refused = let e : StoreFault ≡ Refused fault = sym (status_same end) ∙ refused in cc
run_refused o (Whole bytes ∷ more) outcome fault end refused = stored_refused o (snapshot_of bytes) more outcome fault end refused
