use Rattle.std.proofs.Common.{arith}
use Rattle.std.proofs.lemmas.Grind.{common_steps}
use Rattle.mx_source.proofs.texts.quoted_size.Goals as goal

pub characters-preserved : goal.characters-preserved
characters-preserved c = grind (arith, common_steps)

pub returns-in_err-escape_byte-clause-size : goal.returns-in_err-escape_byte-clause-size
returns-in_err-escape_byte-clause-size c = grind (arith, common_steps)

pub returns-then-i-text-clause-size : goal.returns-then-i-text-clause-size
returns-then-i-text-clause-size c = grind (arith, common_steps)

pub returns-else-i-text-clause-size : goal.returns-else-i-text-clause-size
returns-else-i-text-clause-size c = grind (arith, common_steps)

pub returns-else-is_printed-clause-size : goal.returns-else-is_printed-clause-size
returns-else-is_printed-clause-size c = grind (arith, common_steps)

pub returns-clause-size : goal.returns-clause-size
returns-clause-size c = grind (arith, common_steps)
