-- Why a call ends with a status: by what the words ask, and by what the store answered of the files that were read.
use Rattle.std.specs.Prelude.{◌≡◌, ◌≢◌, ℕ, ◌<◌, ◌⊎◌, false, List, [], ◌∷◌, ◌++◌, Option, Some, None, Ok, Err, IfSome, ⊤, map as list_map}
use Rattle.std.specs.FinMap.{get}
use Rattle.std.specs.List.{AllByRecursion}
use Rattle.mx_io.specs.Count.{Rose}
use Rattle.mx_io.specs.Store.{StoreState}
use Rattle.mx_io.specs.Answer.{Answer, HasSucceeded, Talks}
use Rattle.mx_manifest.specs.declared.fault.BootFault.{BootFault}
use Rattle.mx_manifest.specs.declared.fault.Key.{Key}
use Rattle.mx_manifest.specs.declared.fault.Key.TheVariants as key
use Rattle.mx_manifest.specs.declared.fault.Part.TheVariants as part
use Rattle.mx_manifest.specs.Plan.{Said}
use Rattle.mx_model.specs.State.{State}
use Rattle.mx_boot.specs.Boot.{Refusal, Faulty, TooFull, boot_of}
use Rattle.mx_commands.specs.declared.side.Side.{Side}
use Rattle.mx_commands.specs.declared.side.Side.TheVariants.{First, Second}
use Rattle.mx_commands.specs.declared.status.FileRole.{FileRole}
use Rattle.mx_commands.specs.declared.status.Status.{Status}
use Rattle.mx_commands.specs.declared.status.Status.TheVariants.{Ran, Usage, Refused, TablesFull, StoreFault, ShortFile, NoFile}
use Rattle.mx_commands.specs.declared.status.Status.TheVariants.{ConsoleFault, ReportFault, DumpFault, WantOfMemory, AsmFault, Unlike}
use Rattle.mx_commands.specs.declared.status.Status.TheVariants.{NoDomain, SecondRefused, SecondTablesFull, SnapshotFault}
use Rattle.mx_commands.specs.Order.{Order, Pair}
use Rattle.mx_run.specs.Words.{Request, Go, Asm, Twin}
use Rattle.mx_commands.specs.declared.order.Way.TheVariants.{Resume}
use Rattle.mx_plan.specs.Manifest.{judged}
use Rattle.mx_resume.specs.Snapshot.{Unread, FaultAt, NeedsMore, snapshot_of}
use Rattle.mx_commands.specs.Finding.{Finding, Absent, Large, Short, Broken, Whole}
use Rattle.mx_commands.specs.Next.{Outcome, Wanted}
use Rattle.mx_commands.specs.Boots.{Rest, after_boot, refused_by, size_fault, HasBoth}
use Rattle.mx_commands.specs.Commands.{assembled}
use Rattle.mx_run.specs.Commands.{next}
use Rattle.mx_commands.specs.Compared.{first_unlike, is_domain}
use Rattle.mx_run.specs.Leads.{Leads}
use Rattle.mx_commands.specs.Leads.{FindsAll, Reaches, FindsLast}

-- the answers lead to an outcome with this status
abbrev pub LeadsToStatus : Option Request → List Answer → Status → Type 0
LeadsToStatus asked answers status =
    (outcome : Outcome) × Leads asked answers outcome × (outcome.status ≡ status)

-- the file that is read last is read for this, and found so
abbrev pub IsFound : Option Request → List Answer → FileRole → Finding → Type 0
IsFound asked answers role found =
    (file : Wanted) × (file.role ≡ role) × FindsLast (next asked) answers file found

-- the file that is read last is over its limit, and this is its status for that
abbrev pub IsOver : Option Request → List Answer → Status → Type 0
IsOver asked answers status =
    (file : Wanted) × (file.large ≡ status) × FindsLast (next asked) answers file Large

-- after these findings a command boots the manifest of this name, of this side
pub record BootsAfter (asked : Option Request) (before : List Finding) (side : Side) (name : List ℕ)
    : Type 0 where
  pub rest : Rest
  pub goes : (found : List Finding) → next asked (before ++ found) ≡ after_boot side name rest found

-- a side's manifest is read whole, and this is its first fault
abbrev pub IsFaulty : Option Request → List Answer → Side → BootFault → Type 0
IsFaulty asked answers side fault =
    (before : List Finding) × (name : List ℕ) × BootsAfter asked before side name
    × (bytes : List ℕ) × FindsAll (next asked) answers (before ++ Whole bytes ∷ [])
    × (judged bytes ≡ Err fault)

-- a side's manifest, its images and its inputs are read whole, and this is how the boot refuses them
abbrev pub IsRefused : Option Request → List Answer → Side → Refusal → Type 0
IsRefused asked answers side refusal =
    (before : List Finding) × (name : List ℕ) × BootsAfter asked before side name
    × (bytes : List ℕ) × (files : List (List ℕ))
    × FindsAll (next asked) answers (before ++ Whole bytes ∷ list_map Whole files)
    × (plan : Said) × (judged bytes ≡ Ok plan)
    × (images : List (List ℕ)) × (inputs : List (List ℕ)) × HasBoth plan files images inputs
    × (boot_of plan images inputs ≡ Err refusal)

-- a file that is read last is over its limit, or a side's boot has this fault
abbrev pub HasFault : Option Request → List Answer → Side → BootFault → Type 0
HasFault asked answers side fault = IsOver asked answers (refused_by side (Faulty fault))
    ⊎ IsFaulty asked answers side fault ⊎ IsRefused asked answers side (Faulty fault)

-- a source is read whole, and this is the status of what its bytes give
abbrev pub IsUnassembled : Option Request → List Answer → Status → Type 0
IsUnassembled asked answers status =
    (source : List ℕ) × (asked ≡ Some (Asm source)) × (bytes : List ℕ)
    × FindsAll (next asked) answers (Whole bytes ∷ [])
    × ((assembled source bytes).status ≡ status)

-- a snapshot is read whole, and this is why nothing goes on from it
abbrev pub IsUnread : Option Request → List Answer → Unread → Type 0
IsUnread asked answers why =
    (o : Order) × (asked ≡ Some (Go o)) × (o.way ≡ Resume) × (bytes : List ℕ)
    × FindsAll (next asked) answers (Whole bytes ∷ []) × (snapshot_of bytes ≡ Err why)

-- a manifest, its images and its inputs were read whole, and its plan boots
pub record IsBooted (bytes : List ℕ) (files : List (List ℕ)) (plan : Said) : Type 0 where
  pub good : judged bytes ≡ Ok plan
  pub images : List (List ℕ)
  pub inputs : List (List ℕ)
  pub taken : HasBoth plan files images inputs
  pub state : State
  pub boots : boot_of plan images inputs ≡ Ok state

-- both manifests of a comparison were read, and these two plans boot
pub record Compares (asked : Option Request) (answers : List Answer) (pair : Pair) (plan other : Said)
    : Type 0 where
  pub asks : asked ≡ Some (Twin pair)
  pub bytes : List ℕ
  pub files : List (List ℕ)
  pub first : IsBooted bytes files plan
  pub more : List ℕ
  pub others : List (List ℕ)
  pub second : IsBooted more others other
  pub finds : FindsAll (next asked) answers
      (Whole bytes ∷ list_map Whole files ++ Whole more ∷ list_map Whole others)

-- two plans are compared that differ first in this key
abbrev pub IsUnlike : Option Request → List Answer → Key → Type 0
IsUnlike asked answers key =
    (pair : Pair) × (plan : Said) × (other : Said) × Compares asked answers pair plan other
    × (first_unlike plan other ≡ Some key)

-- two plans are compared that are alike, for a domain that is no module's
abbrev pub HasNoDomain : Option Request → List Answer → Type 0
HasNoDomain asked answers =
    (pair : Pair) × (plan : Said) × (other : Said) × Compares asked answers pair plan other
    × (first_unlike plan other ≡ None) × (is_domain plan pair.domain ≡ false)

-- the cause of a status: for most the file that is read last, for the others what whole files say
abbrev pub Cause : Option Request → List Answer → Status → Type 0
Cause asked answers Ran = ⊤
Cause asked answers Usage = (asked ≡ None) × (answers ≡ [])
Cause asked answers (Refused fault) = HasFault asked answers First fault
Cause asked answers (TablesFull need limit) = IsRefused asked answers First (TooFull need limit)
    ⊎ IsUnread asked answers (NeedsMore need limit)
Cause asked answers StoreFault = (role : FileRole) × IsFound asked answers role Broken
Cause asked answers (ShortFile role told got) =
    (got < told) × IsFound asked answers role (Short told got)
Cause asked answers (NoFile role) = IsFound asked answers role Absent
Cause asked answers (AsmFault line number) = IsOver asked answers (AsmFault line number)
    ⊎ IsUnassembled asked answers (AsmFault line number)
Cause asked answers ConsoleFault = ⊥
Cause asked answers ReportFault = ⊥
Cause asked answers DumpFault = ⊥
Cause asked answers WantOfMemory = ⊥
Cause asked answers (Unlike key) = IsUnlike asked answers key
Cause asked answers NoDomain = HasNoDomain asked answers
Cause asked answers (SecondRefused fault) = HasFault asked answers Second fault
Cause asked answers (SecondTablesFull need limit) =
    IsRefused asked answers Second (TooFull need limit)
Cause asked answers (SnapshotFault at number) = IsOver asked answers (SnapshotFault at number)
    ⊎ IsUnread asked answers (FaultAt at number)

-- answers lead to a status only by its cause
abbrev pub StatusesHaveCauses : Type 0
StatusesHaveCauses = (asked : Option Request) (answers : List Answer) (status : Status) →
    LeadsToStatus asked answers status → Cause asked answers status

-- and wherever there is the cause of one, but for `Ran`, they lead to it
abbrev pub CausesDecide : Type 0
CausesDecide = (asked : Option Request) (answers : List Answer) (status : Status) →
    Cause asked answers status → status ≢ Ran → LeadsToStatus asked answers status

-- a run from a snapshot ends with `Refused` only for a schedule over its limit
abbrev pub LargeSchedulesRefuse : Type 0
LargeSchedulesRefuse = (o : Order) (answers : List Answer) (fault : BootFault) → o.way ≡ Resume →
    LeadsToStatus (Some (Go o)) answers (Refused fault) → fault ≡ size_fault part.Schedule 0 key.NoKey

-- where what a store gave leads to `StoreFault` its count rose
abbrev pub StoreFaultsRise : {S : Type 0} → (S → StoreState) → (S → Answer → S → Type 0) → Type 0
StoreFaultsRise {S} state gives = (asked : Option Request) (s t : S) (answers : List Answer) →
    Talks gives s answers t → LeadsToStatus asked answers StoreFault →
    Rose (state s).faults (state t).faults

-- over a store that tells its files nothing leads to `ShortFile`
abbrev pub NoneIsShort : {S : Type 0} → (S → StoreState) → (S → Answer → S → Type 0) → Type 0
NoneIsShort {S} state gives = (asked : Option Request) (s t : S) (answers : List Answer)
    (role : FileRole) (told got : ℕ) → Talks gives s answers t →
    LeadsToStatus asked answers (ShortFile role told got) → (state s).told ≡ None

-- where it leads to `NoFile` the file that was to be read last is absent
abbrev pub NoFileIsAbsent : {S : Type 0} → (S → StoreState) → (S → Answer → S → Type 0) → Type 0
NoFileIsAbsent {S} state gives = (asked : Option Request) (s t : S) (answers : List Answer)
    (role : FileRole) → Talks gives s answers t → LeadsToStatus asked answers (NoFile role) →
    IfSome (state s).told (λ files. (file : Wanted) × (file.role ≡ role)
    × FindsLast (next asked) answers file Absent × (get files file.name ≡ None))

-- and where a file is reached that is absent it leads to `NoFile`, or to `StoreFault`
abbrev pub AbsentIsNoFile : {S : Type 0} → (S → StoreState) → (S → Answer → S → Type 0) → Type 0
AbsentIsNoFile {S} state gives = (asked : Option Request) (s t : S) (answers last : List Answer)
    (file : Wanted) (outcome : Outcome) → Talks gives s answers t → Leads asked answers outcome →
    Reaches (next asked) answers file last →
    IfSome (state s).told (λ files. get files file.name ≡ None →
    (outcome.status ≡ NoFile file.role) ⊎ (outcome.status ≡ StoreFault))

-- where every answer of a store is a success its count stayed
abbrev pub SuccessKeeps : {S : Type 0} → (S → StoreState) → (S → Answer → S → Type 0) → Type 0
SuccessKeeps {S} state gives = (s t : S) (answers : List Answer) → Talks gives s answers t →
    AllByRecursion HasSucceeded answers → (state t).faults ≡ (state s).faults
