use Rattle.std.proofs.Common.{length}
use Rattle.mx_debug_texts.proofs.window.+zeros.Given as goal

abbrev pub decreases-zeros : goal.decreases-zeros
decreases-zeros l = length l.text.now
