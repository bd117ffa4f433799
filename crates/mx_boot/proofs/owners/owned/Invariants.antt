use Rattle.std.proofs.Common.{◌≡◌, take, length}
use Rattle.std.specs.List.{flat_map}
use Rattle.mx_boot.specs.Areas.{homes}
use Rattle.mx_boot.specs.Placed.{owned_areas}
use Rattle.mx_boot.proofs.owners.owned.Given as goal

abbrev pub invariant-modules : goal.invariant-modules
invariant-modules l = l.all.items ≡ flat_map (owned_areas (length l.plan.harts)) (take l.i (homes l.plan l.images))
