use Rattle.std.proofs.Common.{◌≡◌, take, map, vec_len}
use Rattle.mx_table.specs.Tables.{row_map}
use Rattle.mx_plain.proofs.tables.maps_of.Given as goal

abbrev pub invariant-loop-spans : goal.invariant-loop-spans
invariant-loop-spans l = (l.maps.items ≡ map (row_map l.words) (take l.spans-index l.rows)) × (vec_len l.maps ≡ l.spans-index)
