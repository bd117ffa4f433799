use Rattle.std.proofs.Common.{arith}
use Rattle.std.proofs.lemmas.Grind.{common_steps}
use Rattle.mx_run.proofs.words.pair_of.Goals as goal

pub returns-then-operands-ne4 : goal.returns-then-operands-ne4
returns-then-operands-ne4 c = record { pair = grind (arith, common_steps) }

pub returns-else-is_name : goal.returns-else-is_name
returns-else-is_name c = record { pair = grind (arith, common_steps) }
