use Rattle.std.proofs.Common.{arith}
use Rattle.std.proofs.lemmas.Grind.{common_steps}
use Rattle.mx_source.proofs.lines.name_size.Goals as goal

pub characters-preserved : goal.characters-preserved
characters-preserved c = grind (arith, common_steps)
