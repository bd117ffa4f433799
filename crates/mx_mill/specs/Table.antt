-- The manifest of `mill`, as TOML has it. The keys of a table stand in the order of their bytes.
-- The rules: docs/COMMANDS.md, "The mill".
use Rattle.std.specs.Prelude.{ℕ, ◌+◌, pos, List, [], ◌∷◌, ◌++◌, map, decimal, codes}
use Rattle.std.specs.List.{range_with_len}
use Rattle.toml.specs.Data.{Data, string, integer, array, table, Members, no_members, member}
use Rattle.toml.specs.View.{items_of}
use Rattle.mx_mill.specs.Draws.{draws}
use Rattle.mx_mill.specs.Words.{module_count, hart_count, base, module_before, words_by}

abbrev pub number : ℕ → Data
number n = integer (pos n)

abbrev pub list : List Data → Data
list values = array (items_of values)

-- a module's name: `m` and its number
abbrev pub name : ℕ → List ℕ
name i = codes "m" ++ decimal i

-- the places at which a module is called, and at which it goes on when its call returns
abbrev pub call_gate : ℕ → ℕ
call_gate i = base i + 64

abbrev pub return_gate : ℕ → ℕ
return_gate i = base i + 68

-- the gate of module i
abbrev pub gate_table : ℕ → Data
gate_table i = table
    (member (codes "entry") (number (call_gate i))
    (member (codes "from") (list (string (name (module_before i)) ∷ []))
    no_members))

-- module i, with its words
abbrev pub module_table : ℕ → List ℕ → Data
module_table i words = table
    (member (codes "at") (number (base i))
    (member (codes "gates") (list (gate_table i ∷ []))
    (member (codes "heap") (number (base i + 0x2000))
    (member (codes "heap_words") (number 1024)
    (member (codes "name") (string (name i))
    (member (codes "perm") (string (codes "rx"))
    (member (codes "returns") (list (number (return_gate i) ∷ []))
    (member (codes "words") (list (map number words))
    no_members))))))))

-- the hart that begins in module i
abbrev pub hart_table : ℕ → Data
hart_table i = table (member (codes "module") (string (name i)) no_members)

-- the manifest, with the words of each module
abbrev pub table_with : (ℕ → List ℕ) → Members
table_with words =
    member (codes "hart") (list (map hart_table (range_with_len 1 hart_count)))
    (member (codes "module")
    (list (map (λ i. module_table i (words i)) (range_with_len 1 module_count)))
    (member (codes "ram_kib") (number 1024)
    (member (codes "version") (number 1)
    no_members)))

-- the manifest of `mill k`
unfoldable pub mill_table : ℕ → Members
mill_table k = table_with (words_by (draws k))
