use Rattle.std.proofs.Common.{arith}
use Rattle.std.proofs.lemmas.Grind.{common_steps}
use Rattle.mx_source.proofs.operands.place_of.Goals as goal

pub returns-clause-found : goal.returns-clause-found
returns-clause-found c = grind (arith, common_steps)

pub returns-clause-wanted : goal.returns-clause-wanted
returns-clause-wanted c = grind (arith, common_steps)
