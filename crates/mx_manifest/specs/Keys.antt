-- The names of the keys, as a manifest has them.
-- The rules: docs/COMMANDS.md, "The manifest".
use Rattle.std.specs.Prelude.{ℕ, List, codes}
use Rattle.mx_manifest.specs.declared.fault.Key.{Key}
use Rattle.mx_manifest.specs.declared.fault.Key.TheVariants as key
use Rattle.mx_manifest.specs.declared.row.Name.{Name}
use Rattle.mx_manifest.specs.declared.row.Name.TheVariants.{Of, From}

-- the name of a key, or `-` for none
abbrev pub key_text : Key → List ℕ
key_text key.Version = codes "version"
key_text key.RamKib = codes "ram_kib"
key_text key.Tables = codes "tables"
key_text key.Upper = codes "upper"
key_text key.Leaf = codes "leaf"
key_text key.Spill = codes "spill"
key_text key.Lookaside = codes "lookaside"
key_text key.Quantum = codes "quantum"
key_text key.Module = codes "module"
key_text key.Hart = codes "hart"
key_text key.Name = codes "name"
key_text key.Image = codes "image"
key_text key.At = codes "at"
key_text key.Perm = codes "perm"
key_text key.Words = codes "words"
key_text key.Wx = codes "wx"
key_text key.Heap = codes "heap"
key_text key.HeapWords = codes "heap_words"
key_text key.Stack = codes "stack"
key_text key.StackWords = codes "stack_words"
key_text key.Gates = codes "gates"
key_text key.Returns = codes "returns"
key_text key.OnFault = codes "on_fault"
key_text key.Seal = codes "seal"
key_text key.Input = codes "input"
key_text key.InputAt = codes "input_at"
key_text key.InputWords = codes "input_words"
key_text key.InputPerm = codes "input_perm"
key_text key.Entry = codes "entry"
key_text key.NoKey = codes "-"

-- the name that a row has
abbrev pub name_text : Name → List ℕ
name_text (Of key) = key_text key
name_text From = codes "from"

-- the key at which a row's faults are told
abbrev pub name_key : Name → Key
name_key (Of key) = key
name_key From = key.Gates
