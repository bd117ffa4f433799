use Rattle.std.proofs.Common.{rules, arith}
use Rattle.std.proofs.lemmas.Grind.{common_steps}
use Rattle.mx_source.specs.Numbers.{number_of}
use Rattle.mx_source.proofs.number.read_number.Goals as goal

pub returns-clause-value : goal.returns-clause-value
unfolding number_of
returns-clause-value c = search rules

pub returns-then-starts_with-clause-value : goal.returns-then-starts_with-clause-value
unfolding number_of
returns-then-starts_with-clause-value c = grind (arith, common_steps)

pub returns-then-starts_with-2-clause-value : goal.returns-then-starts_with-2-clause-value
unfolding number_of
returns-then-starts_with-2-clause-value c = grind (arith, common_steps)
