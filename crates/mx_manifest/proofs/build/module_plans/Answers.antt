use Rattle.mx_manifest.specs.Plan.{module_plan}
use Rattle.mx_manifest.proofs.Short.{plan_at, built_more, built_all}
use Rattle.mx_manifest.proofs.build.module_plans.Goals as goal

pub module_plan-requires-clause-short : goal.module_plan-requires-clause-short
module_plan-requires-clause-short c =
    c.requires.short c.loop-module.module-index _
    (plan_at (module_plan c.args.names.now) c.args.modules.now c.loop-module.module-index c.module-item.result c.loop-module-test.true
    c.module-item.is)

pub loop-module-preserved : goal.loop-module-preserved
loop-module-preserved c =
    built_more (module_plan c.args.names.now) c.args.modules.now c.loop-module.module-index c.module-item.result c.loop-module.plans.items
    c.push.new.self.items c.in_ok-plan.plan
    c.loop-module-test.true c.module-item.is c.loop-module.invariant c.in_ok-plan.ensures c.in_ok-push.ensures.items

pub returns : goal.returns
returns c = built_all _ _ c.loop-module.module-index _ c.loop-module-test.false c.loop-module.invariant
