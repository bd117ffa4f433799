use Rattle.std.proofs.Common.{refl, ◌∙◌}
use Rattle.mx_machine.proofs.RegLaws.{back-all, back-more}
use Rattle.mx_machine.proofs.hart.restore.Goals as goal

pub loop-i-init : goal.loop-i-init
loop-i-init c = refl

pub loop-i-preserved : goal.loop-i-preserved
loop-i-preserved c =
    c.set.ensures.values ∙ back-more c.args.regs.now c.loop-i.regs c.args.kept.now c.loop-i.i c.told-kept c.loop-i-test.true
    c.loop-i.invariant

pub returns : goal.returns
returns c = back-all c.args.regs.now c.loop-i.regs c.args.kept.now c.loop-i.i c.told-kept c.loop-i-test.false c.loop-i.invariant
