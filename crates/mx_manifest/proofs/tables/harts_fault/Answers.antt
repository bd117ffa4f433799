use Rattle.std.proofs.Common.{◌∙◌, sym, arith}
use Rattle.std.proofs.lemmas.Grind.{common_steps}
use Rattle.mx_manifest.specs.Faults.{each_fault}
use Rattle.mx_manifest.specs.declared.fault.Part.TheVariants as part
use Rattle.mx_manifest.proofs.Loops.{each_over}
use Rattle.mx_manifest.proofs.tables.harts_fault.Goals as goal

pub returns : goal.returns
returns c = sym (sym c.loop-i.invariant ∙ each_over part.Hart _ _ c.loop-i.i c.loop-i-test.false)

pub returns-in-Some : goal.returns-in-Some
unfolding each_fault
returns-in-Some c = grind (arith, common_steps)

pub loop-i-preserved : goal.loop-i-preserved
unfolding each_fault
loop-i-preserved c = grind (arith, common_steps)
