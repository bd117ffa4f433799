use Rattle.std.proofs.Common.{◌-◌, length}
use Rattle.mx_debug_texts.proofs.images.+lowest_from.Given as goal

abbrev pub decreases-lowest_from : goal.decreases-lowest_from
decreases-lowest_from l = length l.segments.now - l.i
