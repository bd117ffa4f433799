use Rattle.std.proofs.Common.{arith}
use Rattle.std.proofs.lemmas.Grind.{common_steps}
use Rattle.mx_source.proofs.mnemonics.find_among.Goals as goal

pub returns-then-eq : goal.returns-then-eq
returns-then-eq c = grind (arith, common_steps)

pub keywords-preserved : goal.keywords-preserved
keywords-preserved c = grind (arith, common_steps)

pub returns : goal.returns
returns c = grind (arith, common_steps)
