use Rattle.std.proofs.Common.{◌∙◌}
use Rattle.mx_manifest.proofs.Short.{built_more, built_all, built_length}
use Rattle.mx_manifest.proofs.build.entries.Goals as goal

pub loop-value-preserved : goal.loop-value-preserved
loop-value-preserved c =
    built_more _ _ c.loop-value.value-index _ _ _ _ c.loop-value-test.true c.value-item.is c.loop-value.invariant
    c.in_ok-entry_plan.ensures c.in_ok-push.ensures.items

pub new-requires : goal.new-requires
new-requires c = built_length _ _ c.loop-value.value-index _ _ c.loop-value.invariant c.requires

pub returns : goal.returns
returns c =
    c.new.ensures ∙ built_all _ _ c.loop-value.value-index _ c.loop-value-test.false c.loop-value.invariant
