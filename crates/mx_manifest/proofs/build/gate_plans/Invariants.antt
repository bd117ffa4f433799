use Rattle.std.proofs.Common.{◌≡◌, map, take}
use Rattle.toml.specs.View.{view}
use Rattle.mx_manifest.specs.Plan.{gate_plan}
use Rattle.mx_manifest.proofs.build.gate_plans.Given as goal

abbrev pub invariant-loop-gate : goal.invariant-loop-gate
invariant-loop-gate l = l.plans.items ≡ map (gate_plan l.names) (map view (take l.gate-index l.gates))
