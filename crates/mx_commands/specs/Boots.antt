-- A boot as a step of a command: the manifest, the images and the inputs of one side are read, and the rest follows from plan and
-- state, or the call ends with the side's one refusal.
-- The rules: docs/COMMANDS.md, "The manifest".
use Rattle.std.specs.Prelude.{◌≡◌, ℕ, ◌+◌, ◌-◌, ◌*◌, min, List, [], ◌∷◌, ◌++◌, length, sum_by, Option, Some, None, Result, Ok, Err}
use Rattle.mx_words.specs.Limits.{most_text_bytes, most_file_bytes}
use Rattle.mx_model.specs.State.{State}
use Rattle.mx_manifest.specs.declared.fault.BootFault.{BootFault}
use Rattle.mx_manifest.specs.declared.fault.Key.{Key}
use Rattle.mx_manifest.specs.declared.fault.Key.TheVariants as key
use Rattle.mx_manifest.specs.declared.fault.Part.{Part}
use Rattle.mx_manifest.specs.declared.fault.Part.TheVariants as part
use Rattle.mx_manifest.specs.declared.parts.InputPlan.{InputPlan}
use Rattle.mx_manifest.specs.declared.parts.ModulePlan.{ModulePlan}
use Rattle.mx_manifest.specs.Plan.{Said}
use Rattle.mx_boot.specs.Boot.{Refusal, Faulty, TooFull, boot_of}
use Rattle.mx_boot.specs.Faults.{ram_words}
use Rattle.mx_commands.specs.declared.side.Side.{Side}
use Rattle.mx_commands.specs.declared.side.Side.TheVariants.{First, Second}
use Rattle.mx_commands.specs.declared.status.FileRole.{FileRole}
use Rattle.mx_commands.specs.declared.status.FileRole.TheVariants.{Manifest, Image, Input, SecondManifest, SecondImage, SecondInput}
use Rattle.mx_commands.specs.declared.status.Status.{Status}
use Rattle.mx_commands.specs.declared.status.Status.TheVariants.{Refused, TablesFull, SecondRefused, SecondTablesFull}
use Rattle.mx_plan.specs.Manifest.{judged}
use Rattle.mx_commands.specs.Finding.{Finding}
use Rattle.mx_commands.specs.Next.{Wanted, Next, End, after_file, refusal}

-- the status of a side's refusal
abbrev pub refused_by : Side → Refusal → Status
refused_by First (Faulty fault) = Refused fault
refused_by First (TooFull need limit) = TablesFull need limit
refused_by Second (Faulty fault) = SecondRefused fault
refused_by Second (TooFull need limit) = SecondTablesFull need limit

-- what a side's files are read for
abbrev pub manifest_role : Side → FileRole
manifest_role First = Manifest
manifest_role Second = SecondManifest

abbrev pub image_role : Side → ℕ → FileRole
image_role First number = Image number
image_role Second number = SecondImage number

abbrev pub input_role : Side → ℕ → FileRole
input_role First number = Input number
input_role Second number = SecondInput number

-- a file over its limit: fault 9 at its place
abbrev pub size_fault : Part → ℕ → Key → BootFault
size_fault table index at = record {
  number = 9;
  place = record { part = table; index = index; key = at };
  detail = 0;
}

-- the files that a boot reads: a side's manifest, the image of its module with a number, and the input of that, of at most as many
-- bytes as its area holds behind the word that tells their number, and as are left of RAM's bytes by the inputs before it
abbrev pub manifest_file : Side → List ℕ → Wanted
manifest_file side name = record {
  role = manifest_role side;
  name = name;
  most = most_text_bytes;
  large = refused_by side (Faulty (size_fault part.Manifest 0 key.NoKey));
}

abbrev pub image_file : Side → ℕ → List ℕ → Wanted
image_file side number name = record {
  role = image_role side number;
  name = name;
  most = most_file_bytes;
  large = refused_by side (Faulty (size_fault part.Module number key.Image));
}

abbrev pub input_file : Side → ℕ → ℕ → InputPlan → Wanted
input_file side number left input = record {
  role = input_role side number;
  name = input.file;
  most = min (4 * (input.words - 1)) left;
  large = refused_by side (Faulty (size_fault part.Module number key.Input));
}

-- a file of each module from a number on that names one, in order, after those that are there; that of a module that names none is empty
abbrev pub after_files : {N : Type 0} → (ModulePlan → Option N) → (ℕ → List (List ℕ) → N → Wanted) →
    ℕ → List ModulePlan → List (List ℕ) → (List (List ℕ) → List Finding → Next) → List Finding → Next
after_files named file number [] taken rest found = rest taken found
after_files named file number (m ∷ ms) taken rest found = elim (named m) [
  | None ↦ after_files named file (number + 1) ms (taken ++ [] ∷ []) rest found
  | Some name ↦ after_file (file number taken name)
      (λ bytes. after_files named file (number + 1) ms (taken ++ bytes ∷ []) rest) found
]

-- how many bytes some files have
abbrev pub total : List (List ℕ) → ℕ
total files = sum_by length files

-- what is read for a module of a side: its image, and its input, where RAM has so many bytes and these inputs are before it
abbrev pub image_named : ModulePlan → Option (List ℕ)
image_named m = m.image

abbrev pub image_wanted : Side → ℕ → List (List ℕ) → List ℕ → Wanted
image_wanted side number taken name = image_file side number name

abbrev pub input_named : ModulePlan → Option InputPlan
input_named m = m.input

abbrev pub input_wanted : Side → ℕ → ℕ → List (List ℕ) → InputPlan → Wanted
input_wanted side size number taken input = input_file side number (size - total taken) input

-- the images of modules, and then their inputs
abbrev pub after_images : Side → ℕ → List ModulePlan → List (List ℕ) →
    (List (List ℕ) → List Finding → Next) → List Finding → Next
after_images side = after_files image_named (image_wanted side)

abbrev pub after_inputs : Side → ℕ → ℕ → List ModulePlan → List (List ℕ) →
    (List (List ℕ) → List Finding → Next) → List Finding → Next
after_inputs side size = after_files input_named (input_wanted side size)

-- the file of a module is the first of those left to it; that of a module that names none is empty, and takes none
abbrev pub HasFile : {N : Type 0} → Option N → List (List ℕ) → List ℕ → List (List ℕ) → Type 0
HasFile None files bytes more = (bytes ≡ []) × (files ≡ more)
HasFile (Some name) files bytes more = files ≡ bytes ∷ more

-- the files of modules, in order, by the bytes of all of them
abbrev pub HasFiles : {N : Type 0} → (ModulePlan → Option N) → List ModulePlan → List (List ℕ) →
    List (List ℕ) → Type 0
HasFiles named [] files taken = (files ≡ []) × (taken ≡ [])
HasFiles named (m ∷ ms) files taken =
    (bytes : List ℕ) × (more : List (List ℕ)) × (others : List (List ℕ))
    × HasFile (named m) files bytes more × (taken ≡ bytes ∷ others) × HasFiles named ms more others

-- the images and the inputs of a plan's modules, by the bytes of all these files: those of the images come first
pub record HasBoth (plan : Said) (files images inputs : List (List ℕ)) : Type 0 where
  pub first : List (List ℕ)
  pub last : List (List ℕ)
  pub parts : files ≡ first ++ last
  pub as_images : HasFiles image_named plan.modules first images
  pub as_inputs : HasFiles input_named plan.modules last inputs

-- what follows from a plan and its state at boot
abbrev pub Rest : Type 0
Rest = Said → State → List Finding → Next

-- a state at boot goes on; otherwise there is one refusal
abbrev pub booted : Side → List ℕ → Rest → Said → Result State Refusal → List Finding → Next
booted side name rest plan (Ok s) found = rest plan s found
booted side name rest plan (Err why) found = End (refusal name (refused_by side why))

-- what follows from images, inputs, a plan and its state at boot
abbrev pub Load : Type 0
Load = List (List ℕ) → List (List ℕ) → Rest

-- a plan boots with its images and its inputs, and the rest follows from all of these; otherwise there is one refusal
abbrev pub loaded : Side → List ℕ → Load → Result Said BootFault → List Finding → Next
loaded side name rest (Ok plan) found = after_images side 1 plan.modules []
    (λ images. after_inputs side (4 * ram_words plan) 1 plan.modules []
    (λ inputs. booted side name (rest images inputs) plan (boot_of plan images inputs))) found
loaded side name rest (Err fault) found = End (refusal name (refused_by side (Faulty fault)))

-- the same where the rest follows from plan and state
abbrev pub planned : Side → List ℕ → Rest → Result Said BootFault → List Finding → Next
planned side name rest = loaded side name (λ images inputs. rest)

-- the manifest of this name boots, and the rest follows from images, inputs, plan and state
abbrev pub after_load : Side → List ℕ → Load → List Finding → Next
after_load side name rest =
    after_file (manifest_file side name) (λ bytes. loaded side name rest (judged bytes))

-- the manifest of this name boots, and the rest follows from plan and state
abbrev pub after_boot : Side → List ℕ → Rest → List Finding → Next
after_boot side name rest = after_load side name (λ images inputs. rest)
