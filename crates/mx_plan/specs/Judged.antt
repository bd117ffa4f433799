-- What the reader of a manifest answers.
use Rattle.std.specs.Prelude.{◌≡◌, Result, Ok, Err, ⊤}
use Rattle.mx_manifest.specs.declared.fault.BootFault.{BootFault}
use Rattle.mx_manifest.specs.declared.reading.ManifestFault.{ManifestFault}
use Rattle.mx_manifest.specs.declared.reading.ManifestFault.TheVariants.{Fault, NoMemory}
use Rattle.mx_manifest.specs.Plan.{Said}

-- the plan, the first fault, or want of memory
abbrev pub IsJudged : Result Said BootFault → Result Said ManifestFault → Type 0
IsJudged judged (Ok plan) = judged ≡ Ok plan
IsJudged judged (Err (Fault fault)) = judged ≡ Err fault
IsJudged judged (Err NoMemory) = ⊤
