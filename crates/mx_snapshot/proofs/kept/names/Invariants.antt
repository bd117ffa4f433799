use Rattle.std.proofs.Common.{◌≡◌, take, map}
use Rattle.mx_manifest.specs.declared.parts.ModulePlan.{ModulePlan}
use Rattle.mx_snapshot.proofs.kept.names.Given as goal

abbrev pub invariant-modules : goal.invariant-modules
invariant-modules l = l.names.items ≡ map (λ (m : ModulePlan). m.name) (take l.i l.plan.modules)
