use Rattle.std.proofs.Common.{◌≡◌, map}
use Rattle.toml.specs.View.{view}
use Rattle.mx_manifest.specs.declared.fault.Part.TheVariants as part
use Rattle.mx_manifest.specs.Faults.{each_fault, from_fault}
use Rattle.mx_manifest.proofs.Loops.{each_from}
use Rattle.mx_manifest.proofs.names.froms_fault.Given as goal

abbrev pub invariant-loop-i : goal.invariant-loop-i
invariant-loop-i l = each_from part.Module (from_fault l.names) l.i l.modules
    ≡ each_fault part.Module (from_fault l.names) (map view l.modules)
