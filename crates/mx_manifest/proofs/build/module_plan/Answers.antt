use Rattle.std.proofs.Common.{length, map, sym, subst, ◌≤◌}
use Rattle.mx_manifest.specs.InRange.{Each}
use Rattle.mx_manifest.specs.Plan.{entry_plan, gate_plan}
use Rattle.mx_manifest.proofs.Short.{source_length}
use Rattle.mx_manifest.proofs.build.module_plan.Goals as goal

pub gate_plans-requires-clause-few : goal.gate_plans-requires-clause-few
gate_plans-requires-clause-few c =
    source_length (gate_plan c.args.names.now) c.elements_at.result.now _ _ c.elements_at.ensures c.requires.short.gates

pub gate_plans-requires-clause-froms : goal.gate_plans-requires-clause-froms
gate_plans-requires-clause-froms c =
    subst (λ xs. Each (λ gate. length gate.from ≤ 65536) (map (gate_plan c.args.names.now) xs))
    (sym c.elements_at.ensures) c.requires.short.froms

pub entries-requires : goal.entries-requires
entries-requires c =
    source_length entry_plan c.elements_at-2.result.now _ _ c.elements_at-2.ensures c.requires.short.returns
