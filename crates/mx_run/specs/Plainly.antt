-- What the clauses by command share: files, a manifest that boots, and texts.
-- The rules: docs/PROMISES.md, "One clause for each command".
use Rattle.std.specs.Prelude.{◌≡◌, ℕ, ◌-◌, ◌*◌, ◌≤◌, min, List, [], ◌∷◌, length, Option, Some, None, Ok}
use Rattle.std.specs.FinMap.{get}
use Rattle.mx_words.specs.Limits.{most_text_bytes, most_file_bytes}
use Rattle.mx_io.specs.Store.{FileMap}
use Rattle.mx_io.specs.Texts.{AppendsWhole}
use Rattle.mx_model.specs.Run.{Schedule, ByQuantum, ByBytes}
use Rattle.mx_model.specs.State.{State}
use Rattle.mx_manifest.specs.declared.parts.InputPlan.{InputPlan}
use Rattle.mx_manifest.specs.declared.parts.ModulePlan.{ModulePlan}
use Rattle.mx_manifest.specs.Plan.{Said}
use Rattle.mx_plan.specs.Manifest.{judged}
use Rattle.mx_boot.specs.Boot.{boot_of}
use Rattle.mx_boot.specs.Faults.{ram_words}
use Rattle.mx_turns.specs.Ends.{Sinks}

-- each sink that tells holds what it held, followed by its text
pub record HoldsTexts (shown told dumped : List ℕ) (before now : Sinks) : Type 0 where
  pub console : AppendsWhole before.console.written now.console.written shown
  pub report : AppendsWhole before.report.written now.report.written told
  pub dump : AppendsWhole before.dump.written now.dump.written dumped

-- a file stands under a name, of these bytes and at most so many
pub record HasFile (files : FileMap) (most : ℕ) (name bytes : List ℕ) : Type 0 where
  pub stands : get files name ≡ Some bytes
  pub fits : length bytes ≤ most

-- the image of a module is its file, and empty for inline words
abbrev pub IsImage : FileMap → Option (List ℕ) → List ℕ → Type 0
IsImage files None image = image ≡ []
IsImage files (Some name) image = HasFile files most_file_bytes name image

abbrev pub AreImages : FileMap → List ModulePlan → List (List ℕ) → Type 0
AreImages files [] images = images ≡ []
AreImages files (m ∷ ms) images =
    (image : List ℕ) × (others : List (List ℕ))
    × (images ≡ image ∷ others) × IsImage files m.image image × AreImages files ms others

-- the input of a module is its file, and empty for a module without one: it fits the area behind the word that tells its size, and RAM
-- has at least so many bytes beside those of the inputs before it
abbrev pub IsInput : FileMap → ℕ → Option InputPlan → List ℕ → Type 0
IsInput files left None bytes = bytes ≡ []
IsInput files left (Some input) bytes =
    HasFile files (min (4 * (input.words - 1)) left) input.file bytes

abbrev pub AreInputs : FileMap → ℕ → List ModulePlan → List (List ℕ) → Type 0
AreInputs files left [] inputs = inputs ≡ []
AreInputs files left (m ∷ ms) inputs =
    (bytes : List ℕ) × (others : List (List ℕ))
    × (inputs ≡ bytes ∷ others) × IsInput files left m.input bytes
    × AreInputs files (left - length bytes) ms others

-- the manifest of this name boots with its images and its inputs: its plan, and the state at boot
pub record Boots (files : FileMap) (name : List ℕ) (plan : Said) (s : State) : Type 0 where
  pub bytes : List ℕ
  pub file : HasFile files most_text_bytes name bytes
  pub good : judged bytes ≡ Ok plan
  pub images : List (List ℕ)
  pub taken : AreImages files plan.modules images
  pub inputs : List (List ℕ)
  pub given : AreInputs files (4 * ram_words plan) plan.modules inputs
  pub boots : boot_of plan images inputs ≡ Ok s

-- the schedule is the file that is asked for, or goes by the plan's quantum
abbrev pub IsSchedule : FileMap → ℕ → Option (List ℕ) → Schedule → Type 0
IsSchedule files quantum None schedule = schedule ≡ ByQuantum quantum
IsSchedule files quantum (Some name) schedule =
    (bytes : List ℕ) × HasFile files most_file_bytes name bytes × (schedule ≡ ByBytes bytes)
