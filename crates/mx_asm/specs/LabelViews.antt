-- What the code's labels mean.
use Rattle.std.specs.Prelude.{ℕ, List, map}
use Rattle.std.specs.Borrow.{Bor}
use Rattle.indexmap.specs.IndexMap.{IndexMap}
use Rattle.mx_asm.specs.declared.hashing.LabelHashing.{LabelHashing}
use Rattle.mx_asm.specs.declared.labels.LabelPlace.{LabelPlace}
use Rattle.mx_asm.specs.Labels.{Definition}

-- the definition of a name at a place
abbrev pub definition_view : List ℕ → LabelPlace → Definition
definition_view name place = record { name = name; address = place.address; line = place.line }

-- of an entry of the map
abbrev pub entry_view : Bor (List ℕ) × LabelPlace → Definition
entry_view e = definition_view e.0.now e.1

abbrev pub Labels : Type 0
Labels = IndexMap (Bor (List ℕ)) LabelPlace LabelHashing

-- the labels of the map, in its order
abbrev pub labels_view : Labels → List Definition
labels_view labels = map entry_view labels.entries
