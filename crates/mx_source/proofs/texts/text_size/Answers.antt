use Rattle.std.proofs.Common.{arith}
use Rattle.std.proofs.lemmas.Grind.{common_steps}
use Rattle.mx_source.specs.Operands.{text_of}
use Rattle.mx_source.proofs.texts.text_size.Goals as goal

pub returns-then-is_empty-clause-size : goal.returns-then-is_empty-clause-size
unfolding text_of
returns-then-is_empty-clause-size c = grind (arith, common_steps)

pub returns-clause-size : goal.returns-clause-size
unfolding text_of
returns-clause-size c = grind (arith, common_steps)
