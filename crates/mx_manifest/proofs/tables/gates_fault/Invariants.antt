use Rattle.std.proofs.Common.{◌≡◌, map}
use Rattle.toml.specs.View.{view}
use Rattle.mx_manifest.specs.Faults.{first_of, gate_fault}
use Rattle.mx_manifest.proofs.Loops.{found_from}
use Rattle.mx_manifest.proofs.tables.gates_fault.Given as goal

abbrev pub invariant-loop-gate : goal.invariant-loop-gate
invariant-loop-gate l = found_from (gate_fault l.version) l.gate-index l.gates ≡ first_of (map (gate_fault l.version) (map view l.gates))
