use Rattle.std.proofs.Common.{arith}
use Rattle.std.proofs.lemmas.Grind.{common_steps}
use Rattle.mx_manifest.specs.Faults.{each_fault}
use Rattle.mx_manifest.proofs.names.froms_fault.Goals as goal

pub returns-in-Some : goal.returns-in-Some
unfolding each_fault
returns-in-Some c = grind (arith, common_steps)

pub loop-i-preserved : goal.loop-i-preserved
unfolding each_fault
loop-i-preserved c = grind (arith, common_steps)

pub returns : goal.returns
unfolding each_fault
returns c = grind (arith, common_steps)
