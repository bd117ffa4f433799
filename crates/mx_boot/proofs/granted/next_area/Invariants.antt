use Rattle.std.proofs.Common.{◌≡◌, take, fold, None}
use Rattle.mx_boot.specs.Placed.{nearer}
use Rattle.mx_boot.proofs.granted.next_area.Given as goal

abbrev pub invariant-loop-area : goal.invariant-loop-area
invariant-loop-area l = l.found ≡ fold (nearer l.word) None (take l.area-index l.areas)
