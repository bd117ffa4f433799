use Rattle.std.proofs.Common.{arith}
use Rattle.mx_source.proofs.Steps.{trim_steps}
use Rattle.mx_source.proofs.characters.trim_start.Goals as goal

pub blanks-preserved : goal.blanks-preserved
blanks-preserved c = grind (arith, trim_steps)
