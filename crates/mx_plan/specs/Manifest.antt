-- From the bytes of a manifest file to its plan.
-- The rules: docs/COMMANDS.md, "The manifest".
use Rattle.std.specs.Prelude.{ℕ, if◌then◌else◌, List, Option, Some, None, Result, Ok, Err}
use Rattle.std.specs.Str.{is_utf8}
use Rattle.toml.specs.Data.{Data, Members, table}
use Rattle.toml.specs.Parse.{parse_document}
use Rattle.mx_manifest.specs.declared.fault.BootFault.{BootFault}
use Rattle.mx_manifest.specs.declared.fault.Part.TheVariants as part
use Rattle.mx_manifest.specs.declared.fault.Key.TheVariants as key
use Rattle.mx_manifest.specs.Faults.{first_fault}
use Rattle.mx_manifest.specs.Plan.{Said, plan_of}

-- a fault of the manifest file as a whole
abbrev pub file_fault : ℕ → BootFault
file_fault number = record {
  number = number;
  place = record { part = part.Manifest; index = 0; key = key.NoKey };
  detail = 0;
}

-- the document that bytes spell
abbrev pub document : List ℕ → Option Members
document bytes = if is_utf8 bytes then parse_document bytes else None

-- the plan of a table, or its first fault
abbrev pub planned : Data → Option BootFault → Result Said BootFault
planned top None = Ok (plan_of top)
planned top (Some fault) = Err fault

abbrev pub judged_document : Option Members → Result Said BootFault
judged_document None = Err (file_fault 1)
judged_document (Some top) = planned (table top) (first_fault (table top))

-- what the bytes of a manifest file within its limit say
abbrev pub judged : List ℕ → Result Said BootFault
judged bytes = judged_document (document bytes)
