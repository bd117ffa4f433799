use Rattle.std.proofs.Common.{◌≡◌, map, take}
use Rattle.toml.specs.View.{view}
use Rattle.mx_manifest.specs.Plan.{hart_plan}
use Rattle.mx_manifest.proofs.build.hart_plans.Given as goal

abbrev pub invariant-loop-hart : goal.invariant-loop-hart
invariant-loop-hart l = l.plans.items ≡ map (hart_plan l.names) (map view (take l.hart-index l.harts))
