use Rattle.std.proofs.Common.{◌≡◌, take, map}
use Rattle.mx_words.specs.Newest.{owners}
use Rattle.mx_boot.specs.Boot.{give}
use Rattle.mx_boot.proofs.owners.give_all.Given as goal

abbrev pub invariant-areas : goal.invariant-areas
invariant-areas l = l.owners ≡ owners (map give (take l.area-index l.areas)) l.words
