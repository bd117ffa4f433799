-- The table of keys: for each key, in listed order, where it is required and what its value may be.
-- Where a key is neither required nor there, its default is told by specs/Plan.
-- The rules: docs/COMMANDS.md, "The manifest".
use Rattle.std.specs.Prelude.{ℕ, List, [], ◌∷◌}
use Rattle.mx_words.specs.Limits.{most_modules, most_harts, most_gates, most_words, least_ram_kib, most_ram_kib, most_upper, most_leaf}
use Rattle.mx_words.specs.Limits.{most_spill, most_quantum, most_inline_words, most_stack_words}
use Rattle.mx_manifest.specs.declared.fault.Key.{Key}
use Rattle.mx_manifest.specs.declared.fault.Key.TheVariants as key
use Rattle.mx_manifest.specs.declared.row.Row.{Row}
use Rattle.mx_manifest.specs.declared.row.Name.TheVariants.{Of, From}
use Rattle.mx_manifest.specs.declared.row.Asked.{Asked}
use Rattle.mx_manifest.specs.declared.row.Asked.TheVariants.{Always, Never, With, Without, WithAny, WithoutAny}
use Rattle.mx_manifest.specs.declared.row.Form.{Form}
use Rattle.mx_manifest.specs.declared.row.Form.TheVariants.{Integer, Aligned, Choice, Text, Boolean, Entry, Array}
use Rattle.mx_manifest.specs.declared.row.TextForm.TheVariants.{Any, Tables, ModuleName, FileName, Permission, ImagePermission, OnFault}
use Rattle.mx_manifest.specs.declared.row.TextForm.TheVariants.{InputPermission}
use Rattle.mx_manifest.specs.declared.row.ItemForm.TheVariants as each
use Rattle.mx_manifest.specs.declared.row.Version.{Version}
use Rattle.mx_manifest.specs.declared.row.Version.TheVariants.{One, Two}

-- the greatest number that version 1 allows, and that version 2 allows
abbrev pub most : Version → ℕ → ℕ → ℕ
most One one two = one
most Two one two = two

abbrev pub row : Key → Asked → Form → Row
row key asked form = record { name = Of key; asked = asked; form = form }

-- the top table
abbrev pub top_rows : Version → List Row
top_rows version =
    row key.Version Always (Integer 1 2)
    ∷ row key.RamKib Always (Aligned least_ram_kib (most version 16384 most_ram_kib))
    ∷ row key.Tables Never (Text Tables)
    ∷ row key.Upper Never (Integer 0 (most version 1024 most_upper))
    ∷ row key.Leaf Never (Integer 0 (most version 65536 most_leaf))
    ∷ row key.Spill Never (Integer 0 (most version 262144 most_spill))
    ∷ row key.Lookaside Never (Choice 8 32 64)
    ∷ row key.Quantum Never (Integer 1 most_quantum)
    ∷ row key.Module Always (Array 1 (most version 15 most_modules) each.Table)
    ∷ row key.Hart Always (Array 1 most_harts each.Table)
    ∷ []

-- a module, up to its gates
abbrev pub early_rows : Version → List Row
early_rows version =
    row key.Name Always (Text ModuleName)
    ∷ row key.Image (WithoutAny key.At key.Perm key.Words) (Text FileName)
    ∷ row key.At (Without key.Image) (Aligned 0 4294967295)
    ∷ row key.Perm (Without key.Image) (Text Permission)
    ∷ row key.Words (Without key.Image) (Array 1 most_inline_words each.Word)
    ∷ row key.Wx Never (Text ImagePermission)
    ∷ row key.Heap (With key.HeapWords) (Aligned 0 4294967295)
    ∷ row key.HeapWords (With key.Heap) (Integer 1 (most version 4194304 most_words))
    ∷ row key.Stack (With key.StackWords) (Aligned 0 4294967295)
    ∷ row key.StackWords (With key.Stack) (Integer 1 most_stack_words)
    ∷ row key.Gates Never (Array 0 most_gates each.Table)
    ∷ []

-- a module, after its gates
abbrev pub late_rows : Version → List Row
late_rows One = row key.Returns Never (Array 0 most_gates each.Entry) ∷ []
late_rows Two =
    row key.Returns Never (Array 0 most_gates each.Entry)
    ∷ row key.OnFault Never (Text OnFault)
    ∷ row key.Seal Never Boolean
    ∷ row key.Input (WithAny key.InputAt key.InputWords key.InputPerm) (Text FileName)
    ∷ row key.InputAt (WithAny key.Input key.InputWords key.InputPerm) (Aligned 0 4294967295)
    ∷ row key.InputWords (WithAny key.Input key.InputAt key.InputPerm) (Integer 1 most_words)
    ∷ row key.InputPerm Never (Text InputPermission)
    ∷ []

-- a gate of a module
abbrev pub gate_rows : Version → List Row
gate_rows version =
    row key.Entry Always Entry
    ∷ record { name = From; asked = Always; form = Array 1 (most version 15 most_modules) each.Text }
    ∷ []

-- a hart
abbrev pub hart_rows : List Row
hart_rows =
    row key.Module Always (Text Any)
    ∷ row key.Entry Never Entry
    ∷ []
