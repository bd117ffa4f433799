use Rattle.std.proofs.Common.{◌≡◌, map, take}
use Rattle.toml.specs.View.{view}
use Rattle.mx_manifest.specs.Plan.{entry_plan}
use Rattle.mx_manifest.proofs.build.entries.Given as goal

abbrev pub invariant-loop-value : goal.invariant-loop-value
invariant-loop-value l = l.entries.items ≡ map (entry_plan) (map view (take l.value-index l.values))
