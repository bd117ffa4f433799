use Rattle.std.proofs.Common.{◌≡◌, map, take}
use Rattle.toml.specs.View.{view}
use Rattle.mx_manifest.specs.Plan.{module_plan}
use Rattle.mx_manifest.proofs.build.module_plans.Given as goal

abbrev pub invariant-loop-module : goal.invariant-loop-module
invariant-loop-module l = l.plans.items ≡ map (module_plan l.names) (map view (take l.module-index l.modules))
