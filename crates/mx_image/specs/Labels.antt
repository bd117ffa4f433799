-- Labels and programs as the code holds them.
use Rattle.std.specs.Prelude.{ℕ, List, map}
use Rattle.mx_image.specs.declared.segment.Segment.{Segment}
use Rattle.mx_image.specs.declared.program.NamedAddress.{NamedAddress}
use Rattle.mx_image.specs.Program.{Label, Program}

-- the label that a name and its address are
abbrev pub label_of : NamedAddress → Label
label_of l = record { name = l.name.now; address = l.address }

-- the labels of a list
abbrev pub labels_of : List NamedAddress → List Label
labels_of items = map label_of items

-- the program with an entry, these segments and these labels
abbrev pub program_of : ℕ → List Segment → List NamedAddress → Program
program_of entry segments items =
    record { entry = entry; segments = segments; labels = labels_of items }
