use Rattle.std.proofs.Common.{arith}
use Rattle.std.proofs.lemmas.Grind.{common_steps}
use Rattle.mx_source.specs.Lines.{trimmed_line, line_by_colon}
use Rattle.mx_source.proofs.lines.trimmed_line.Goals as goal

pub returns-then-after-eq58-clause-line : goal.returns-then-after-eq58-clause-line
unfolding trimmed_line line_by_colon
returns-then-after-eq58-clause-line c = grind (arith, common_steps)

pub returns-else-not-is_empty-clause-line : goal.returns-else-not-is_empty-clause-line
unfolding trimmed_line line_by_colon
returns-else-not-is_empty-clause-line c = grind (arith, common_steps)
