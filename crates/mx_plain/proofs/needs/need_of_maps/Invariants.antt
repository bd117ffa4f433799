use Rattle.std.proofs.Common.{◌≡◌, take}
use Rattle.mx_words.specs.Need.{need}
use Rattle.mx_plain.specs.Sums.{IsFew}
use Rattle.mx_plain.proofs.needs.need_of_maps.Given as goal

abbrev pub invariant-loop-map : goal.invariant-loop-map
invariant-loop-map l = (l.needed ≡ need l.kind (take l.map-index l.maps)) × IsFew l.map-index l.needed
