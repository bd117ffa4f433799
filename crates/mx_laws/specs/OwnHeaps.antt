-- Heap areas that belong to their modules.
-- The rules: docs/MACHINE.md, "Live domains and sealed words".
use Rattle.std.specs.Prelude.{◌≡◌, ℕ, length, IsTrue}
use Rattle.mx_words.specs.Ranges.{covers}
use Rattle.mx_model.specs.Reads.{Reads}
use Rattle.mx_model.specs.State.{Core, module_at}
use Rattle.mx_model.specs.Valid.{IsModule}

-- each heap area belongs to its module
abbrev pub OwnHeaps : Reads → Core → Type 0
OwnHeaps r c = (d word : ℕ) → IsModule (length c.modules) d →
    IsTrue (covers (module_at c d).heap.first (module_at c d).heap.count word) → r.owner word ≡ d
