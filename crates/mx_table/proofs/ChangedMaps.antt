-- The maps of all domains after a change, one by one.
use Rattle.std.proofs.Common.{◌≡◌, ℕ, ◌+◌, ◌<◌, List, [], length, get_or, arith}
use Rattle.mx_words.specs.declared.perm.Perm.{Perm}
use Rattle.mx_words.specs.Changes.{changed_map}
use Rattle.mx_words.proofs.ChangeLaws.{length-changed_from, changed_from-at}
use Rattle.mx_table.specs.declared.change.Change.{Change}
use Rattle.mx_table.specs.Change.{given, changed}

pub length-changed : (change : Change) (maps : List (List Perm)) → length (changed change maps) ≡ length maps
length-changed change maps = length-changed_from change.first change.count (given change) 1 maps

pub changed-at : (change : Change) (ms : List (List Perm)) (i : ℕ) → i < length ms →
    get_or (changed change ms) i [] ≡ changed_map change.first change.count (given change (i + 1)) (get_or ms i [])
changed-at change ms i lt = changed_from-at change.first change.count (given change) 1 ms i (i + 1) [] lt (omega arith)
