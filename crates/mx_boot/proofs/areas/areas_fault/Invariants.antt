use Rattle.std.proofs.Common.{◌≡◌}
use Rattle.mx_boot.proofs.Behind.{areas_from}
use Rattle.mx_boot.proofs.areas.areas_fault.Given as goal

abbrev pub invariant-loop-i : goal.invariant-loop-i
invariant-loop-i l = areas_from l.words l.i l.areas ≡ areas_from l.words 0 l.areas
