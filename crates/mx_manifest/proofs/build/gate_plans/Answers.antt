use Rattle.std.proofs.Common.{◌∙◌}
use Rattle.mx_manifest.specs.Plan.{gate_plan}
use Rattle.mx_manifest.proofs.Short.{plan_at, built_more, built_all, built_length}
use Rattle.mx_manifest.proofs.build.gate_plans.Goals as goal

pub gate_plan-requires-clause-few : goal.gate_plan-requires-clause-few
gate_plan-requires-clause-few c =
    c.requires.froms c.loop-gate.gate-index _ (plan_at (gate_plan c.args.names.now) c.args.gates.now c.loop-gate.gate-index
    c.gate-item.result c.loop-gate-test.true c.gate-item.is)

pub loop-gate-preserved : goal.loop-gate-preserved
loop-gate-preserved c =
    built_more (gate_plan c.args.names.now) c.args.gates.now c.loop-gate.gate-index c.gate-item.result c.loop-gate.plans.items
    c.push.new.self.items c.in_ok-plan.plan
    c.loop-gate-test.true c.gate-item.is c.loop-gate.invariant c.in_ok-plan.ensures c.in_ok-push.ensures.items

pub returns : goal.returns
returns c =
    c.new.ensures ∙ built_all _ _ c.loop-gate.gate-index _ c.loop-gate-test.false c.loop-gate.invariant

pub new-requires : goal.new-requires
new-requires c = built_length _ _ c.loop-gate.gate-index _ _ c.loop-gate.invariant c.requires.few
