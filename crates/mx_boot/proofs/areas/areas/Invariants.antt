use Rattle.std.proofs.Common.{◌≡◌, take, length}
use Rattle.std.specs.List.{flat_map}
use Rattle.mx_boot.specs.Areas.{areas_of, homes}
use Rattle.mx_boot.proofs.areas.areas.Given as goal

abbrev pub invariant-modules : goal.invariant-modules
invariant-modules l = l.all.items ≡ flat_map (areas_of (length l.plan.harts)) (take l.i (homes l.plan l.images))
