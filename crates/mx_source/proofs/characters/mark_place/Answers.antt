use Rattle.std.proofs.Common.{arith}
use Rattle.mx_source.proofs.Steps.{mark_steps}
use Rattle.mx_source.proofs.characters.mark_place.Goals as goal

pub characters-preserved : goal.characters-preserved
characters-preserved c = grind (arith, mark_steps)
