use Rattle.std.proofs.Common.{◌∙◌, arith}
use Rattle.std.proofs.lemmas.Grind.{common_steps}
use Rattle.mx_snapshot.proofs.KeptLaws.{names_more}
use Rattle.mx_snapshot.proofs.kept.names.Goals as goal

pub modules-preserved : goal.modules-preserved
modules-preserved c =
    names_more c.args.plan.now.modules c.modules.i c.module.result.now c.modules.names.items c.push.new.self.items c.in_ok-name.name
    c.module.ensures.value c.modules.invariant
    (c.in_ok-name.ensures ∙ c.as_str.ensures) c.in_ok-push.ensures.items

pub returns : goal.returns
returns c = grind (arith, common_steps)
