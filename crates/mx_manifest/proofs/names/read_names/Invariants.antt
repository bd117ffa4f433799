use Rattle.std.proofs.Common.{◌≡◌, map, take}
use Rattle.toml.specs.View.{view}
use Rattle.mx_manifest.specs.declared.fault.Part.TheVariants as part
use Rattle.mx_manifest.specs.Faults.{each_fault, module_name, repeat_fault}
use Rattle.mx_manifest.proofs.Loops.{each_from}
use Rattle.mx_manifest.proofs.names.read_names.Given as goal

abbrev pub invariant-loop-i : goal.invariant-loop-i
invariant-loop-i l = record {
  names : l.names ≡ map module_name (map view (take l.i l.modules));
  apart : each_from part.Module (repeat_fault (map module_name (map view l.modules))) l.i l.modules
      ≡ each_fault part.Module (repeat_fault (map module_name (map view l.modules))) (map view l.modules);
}
