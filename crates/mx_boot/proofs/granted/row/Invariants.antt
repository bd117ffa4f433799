use Rattle.std.proofs.Common.{◌-◌}
use Rattle.mx_boot.proofs.Rowed.{IsRowTo}
use Rattle.mx_boot.proofs.granted.row.Given as goal

abbrev pub invariant-areas : goal.invariant-areas
invariant-areas l = IsRowTo l.words l.end l.areas l.row

abbrev pub decreases-areas : goal.decreases-areas
decreases-areas l = l.words - l.end
