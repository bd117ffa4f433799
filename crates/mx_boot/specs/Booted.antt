-- What a boot comes to.
use Rattle.std.specs.Prelude.{◌≡◌, ℕ, List, Result, Ok, Err}
use Rattle.mx_model.specs.State.{State, flat}
use Rattle.mx_any.specs.Machines.{meaning}
use Rattle.mx_any.specs.declared.any.AnyMachine.{AnyMachine}
use Rattle.mx_manifest.specs.Plan.{Said}
use Rattle.mx_boot.specs.Boot.{Refusal, Faulty, TooFull, boot_of}
use Rattle.mx_boot.specs.declared.refused.BootRefused.{BootRefused}
use Rattle.mx_boot.specs.declared.refused.BootRefused.TheVariants.{Fault, TablesFull, NoMemory}

-- what a refusal tells: the first fault, or the need of the maps, which exceeds the limit; or that memory ended before
abbrev pub IsRefusedBy : Result State Refusal → BootRefused → Type 0
IsRefusedBy boot (Fault fault) = boot ≡ Err (Faulty fault)
IsRefusedBy boot (TablesFull need limit) = boot ≡ Err (TooFull need limit)
IsRefusedBy boot NoMemory = Unit {0}

-- a machine that is the state at boot; or the first fault, or the need of the maps; or no memory
abbrev pub IsBooted : Said → List (List ℕ) → List (List ℕ) → Result AnyMachine BootRefused → Type 0
IsBooted plan images inputs (Ok m) =
    (s : State) × (boot_of plan images inputs ≡ Ok s) × (meaning m ≡ flat s)
IsBooted plan images inputs (Err refused) = IsRefusedBy (boot_of plan images inputs) refused
