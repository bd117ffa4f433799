-- How a boot is taken, from a manifest's name to its machine, and the schedule of a run.
use Rattle.std.specs.Prelude.{◌≡◌, ℕ, ◌+◌, ◌*◌, length, List, [], ◌∷◌, ◌++◌, Option, option_map, Result, Ok, Err, Vec}
use Rattle.std.specs.declared.alloc.Global.{Global}
use Rattle.mx_io.specs.Sink.{SinkState}
use Rattle.mx_io.specs.Answer.{Answer}
use Rattle.mx_any.specs.Machines.{meaning}
use Rattle.mx_boot.specs.Boot.{boot_of}
use Rattle.mx_boot.specs.Inputs.{AreInputs}
use Rattle.mx_manifest.specs.declared.parts.ModulePlan.{ModulePlan}
use Rattle.mx_manifest.specs.Plan.{Said}
use Rattle.mx_model.specs.Run.{Schedule}
use Rattle.mx_model.specs.State.{State, Flat, flat}
use Rattle.mx_snapshot.specs.Kept.{IsOfPlan, kept_of}
use Rattle.mx_turns.specs.Ends.{sinks}
use Rattle.mx_turns.specs.Running.{IsNew}
use Rattle.mx_commands.specs.declared.booting.Booted.{Booted}
use Rattle.mx_commands.specs.declared.booting.Loaded.{Loaded}
use Rattle.mx_commands.specs.declared.status.Status.{Status}
use Rattle.mx_commands.specs.Finding.{Finding}
use Rattle.mx_commands.specs.Next.{Outcome, Wanted, Next, End}
use Rattle.mx_commands.specs.Commands.{scheduled, schedule_by}
use Rattle.mx_commands.specs.Boots.{Load, Rest, after_files}
use Rattle.mx_commands.specs.Ends.{Continues, Comes}

-- what follows from the files of modules
abbrev pub AfterFiles : Type 0
AfterFiles = List (List ℕ) → List Finding → Next

-- the file of a module was taken: the report is as it was, and the step goes on with the file after those before; or the call ended
abbrev pub TakesFile : {S N : Type 0} → (S → Answer → S → Type 0) → (ModulePlan → Option N) →
    (ℕ → List (List ℕ) → N → Wanted) → ℕ → List (List ℕ) → ModulePlan → S → S → SinkState → SinkState →
    Result (List ℕ) Status → Type 0
TakesFile gives named file number taken m store stored before now (Ok bytes) =
    (now ≡ before) × ((ms : List ModulePlan) (rest : AfterFiles)
    → Comes (after_files named file number (m ∷ ms) taken rest) gives store stored
    (after_files named file (number + 1) ms (taken ++ bytes ∷ []) rest))
TakesFile gives named file number taken m store stored before now (Err status) =
    (ms : List ModulePlan) (rest : AfterFiles) (console dump : SinkState)
    → Continues (after_files named file number (m ∷ ms) taken rest) gives store stored
    (sinks console before dump) (sinks console now dump) status

-- the files of a plan's modules were taken, and the step goes on with them; or the call ended
abbrev pub TakesFiles : {S N : Type 0} → (S → Answer → S → Type 0) → (ModulePlan → Option N) →
    (ℕ → List (List ℕ) → N → Wanted) → List ModulePlan → S → S → SinkState → SinkState →
    Result (List (List ℕ)) Status → Type 0
TakesFiles gives named file modules store stored before now (Ok files) =
    (now ≡ before) × ((rest : AfterFiles)
    → Comes (after_files named file 1 modules [] rest) gives store stored (rest files))
TakesFiles gives named file modules store stored before now (Err status) =
    (rest : AfterFiles) (console dump : SinkState)
    → Continues (after_files named file 1 modules [] rest) gives store stored
    (sinks console before dump) (sinks console now dump) status

-- the files in a list
abbrev pub files_of : Result (Vec (List ℕ) Global) Status → Result (List (List ℕ)) Status
files_of (Ok files) = Ok files.items
files_of (Err status) = Err status

-- the bytes of a schedule file, if one was read
abbrev pub schedule_bytes : Result (Option (Vec ℕ Global)) Status → Result (Option (List ℕ)) Status
schedule_bytes (Ok bytes) = Ok (option_map (λ (v : Vec ℕ Global). v.items) bytes)
schedule_bytes (Err status) = Err status

-- a machine at boot has the words, modules and harts of its plan, and has made no turn
pub record IsOfSize (plan : Said) (f : Flat) : Type 0 where
  pub words : f.core.size ≡ 256 * plan.ram_kib
  pub modules : length f.core.modules ≡ length plan.modules
  pub harts : length f.core.harts ≡ length plan.harts
  pub turns : f.core.turns ≡ 0

-- a boot gave plan and machine, which is a state without texts that made no turn, and a step goes on with the two
pub record GoesOnWith {S : Type 0} (gives : S → Answer → S → Type 0)
    (step : Rest → List Finding → Next) (store stored : S) (b : Booted) : Type 0 where
  pub state : State
  pub new : IsNew state
  pub means : meaning b.machine ≡ flat state
  pub size : IsOfSize b.plan (flat state)
  pub plan : IsOfPlan (kept_of b.plan) (flat state)
  pub comes : (rest : Rest) → Comes (step rest) gives store stored (rest b.plan state)

-- a boot was taken: the report is as it was, and the step goes on; or the call ended
abbrev pub TakesBoot : {S : Type 0} → (S → Answer → S → Type 0) → (Rest → List Finding → Next) →
    S → S → SinkState → SinkState → Result Booted Status → Type 0
TakesBoot gives step store stored before now (Ok b) =
    (now ≡ before) × GoesOnWith gives step store stored b
TakesBoot gives step store stored before now (Err status) =
    (rest : Rest) (console dump : SinkState) → Continues (step rest) gives store stored
    (sinks console before dump) (sinks console now dump) status

-- a boot gave plan, images, inputs and machine: the plan boots with the two to a state without texts that made no turn, which the
-- machine is, and a step goes on with all of these
pub record GoesOnLoaded {S : Type 0} (gives : S → Answer → S → Type 0)
    (step : Load → List Finding → Next) (store stored : S) (l : Loaded) : Type 0 where
  pub state : State
  pub boots : boot_of l.plan l.images.items l.inputs.items ≡ Ok state
  pub fits : AreInputs l.plan l.inputs.items
  pub new : IsNew state
  pub means : meaning l.machine ≡ flat state
  pub size : IsOfSize l.plan (flat state)
  pub kept : IsOfPlan (kept_of l.plan) (flat state)
  pub comes : (rest : Load) → Comes (step rest) gives store stored (rest l.images.items l.inputs.items l.plan state)

-- a boot was taken with the files of its modules: the report is as it was, and the step goes on; or the call ended
abbrev pub TakesLoaded : {S : Type 0} → (S → Answer → S → Type 0) → (Load → List Finding → Next) →
    S → S → SinkState → SinkState → Result Loaded Status → Type 0
TakesLoaded gives step store stored before now (Ok l) =
    (now ≡ before) × GoesOnLoaded gives step store stored l
TakesLoaded gives step store stored before now (Err status) =
    (rest : Load) (console dump : SinkState) → Continues (step rest) gives store stored
    (sinks console before dump) (sinks console now dump) status

-- the schedule that is asked was taken: the report is as it was, and the step ends with it; or the call ended
abbrev pub TakesSchedule : {S : Type 0} → (S → Answer → S → Type 0) → Option (List ℕ) → S → S →
    SinkState → SinkState → Result (Option (List ℕ)) Status → Type 0
TakesSchedule gives name store stored before now (Ok bytes) =
    (now ≡ before) × ((quantum : ℕ) (made : Schedule → Outcome)
    → Comes (scheduled quantum made name) gives store stored
    (λ more. End (made (schedule_by quantum bytes))))
TakesSchedule gives name store stored before now (Err status) =
    (quantum : ℕ) (made : Schedule → Outcome) (console dump : SinkState)
    → Continues (scheduled quantum made name) gives store stored
    (sinks console before dump) (sinks console now dump) status
