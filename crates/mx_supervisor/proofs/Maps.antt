-- A domain's map, as the tables and as a turn read it.
use Rattle.std.proofs.Common.{◌≡◌, ℕ, ◌-◌, List, [], arith}
use Rattle.std.proofs.lemmas.List.{get_or_default}
use Rattle.mx_words.specs.declared.perm.Perm.{Perm}
use Rattle.mx_words.specs.Newest.{map}
use Rattle.mx_table.specs.Tables.{map_of, IsDomain}
use Rattle.mx_model.specs.Reads.{map_in}

pub map-in : (size : ℕ) (maps : List (List Perm)) (d : ℕ) → IsDomain maps d → map_in size maps d ≡ map_of maps d
map-in size maps d there = get_or_default maps (d - 1) (map [] size) [] (let a = there.first in let b = there.last in omega (arith, a, b))
