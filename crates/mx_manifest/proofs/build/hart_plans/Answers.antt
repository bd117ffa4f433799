use Rattle.mx_manifest.specs.Plan.{hart_plan}
use Rattle.mx_manifest.proofs.Short.{built_more, built_all}
use Rattle.mx_manifest.proofs.build.hart_plans.Goals as goal

pub loop-hart-preserved : goal.loop-hart-preserved
loop-hart-preserved c =
    built_more (hart_plan c.args.names.now) c.args.harts.now c.loop-hart.hart-index c.hart-item.result c.loop-hart.plans.items
    c.push.new.self.items c.in_ok-plan.plan
    c.loop-hart-test.true c.hart-item.is c.loop-hart.invariant c.in_ok-plan.ensures c.in_ok-push.ensures.items

pub returns : goal.returns
returns c = built_all _ _ c.loop-hart.hart-index _ c.loop-hart-test.false c.loop-hart.invariant
