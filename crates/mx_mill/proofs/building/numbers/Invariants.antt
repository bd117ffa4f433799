use Rattle.std.proofs.Common.{◌≡◌, map, take}
use Rattle.toml.specs.View.{items_of, items_view}
use Rattle.mx_mill.specs.Table.{number}
use Rattle.mx_mill.proofs.building.numbers.Given as goal

abbrev pub invariant-words : goal.invariant-words
invariant-words l = items_view l.array.items ≡ items_of (map number (take l.word-index l.words))
