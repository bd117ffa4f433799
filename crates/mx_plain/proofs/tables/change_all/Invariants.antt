use Rattle.std.proofs.Common.{◌≡◌, ℕ, ◌+◌, ◌<◌, ◌≤◌, [], get_or, vec_len}
use Rattle.mx_words.specs.Changes.{changed_map}
use Rattle.mx_table.specs.Change.{given}
use Rattle.mx_plain.proofs.tables.change_all.Given as goal

abbrev pub invariant-loop-row : goal.invariant-loop-row
invariant-loop-row l =
    (vec_len l.maps ≡ vec_len l.fn.maps)
    × ((k : ℕ) → k < l.row → get_or l.maps.items k [] ≡ changed_map l.change.first l.change.count (given l.change (k + 1))
    (get_or l.fn.maps.items k []))
    × ((k : ℕ) → l.row ≤ k → get_or l.maps.items k [] ≡ get_or l.fn.maps.items k [])
