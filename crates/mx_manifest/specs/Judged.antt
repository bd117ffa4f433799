-- What `read_manifest` answers.
use Rattle.std.specs.Prelude.{◌≡◌, Option, Some, None, Result, Ok, Err}
use Rattle.toml.specs.Data.{Members, table}
use Rattle.mx_manifest.specs.declared.fault.BootFault.{BootFault}
use Rattle.mx_manifest.specs.declared.reading.ManifestFault.{ManifestFault}
use Rattle.mx_manifest.specs.declared.reading.ManifestFault.TheVariants.{Fault, NoMemory}
use Rattle.mx_manifest.specs.Faults.{first_fault}
use Rattle.mx_manifest.specs.Plan.{Said, plan_of}

-- what a fault tells of a test: that it found this, or that memory ended before
abbrev pub Tells : Option BootFault → ManifestFault → Type 0
Tells test (Fault fault) = test ≡ Some fault
Tells test NoMemory = Unit {0}

-- the plan exactly where there is no fault, or just the first fault, or no memory
abbrev pub IsJudged : Members → Result Said ManifestFault → Type 0
IsJudged top (Ok plan) = (first_fault (table top) ≡ None) × (plan ≡ plan_of (table top))
IsJudged top (Err fault) = Tells (first_fault (table top)) fault
