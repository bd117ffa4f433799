-- What the code's values mean that hold parts of a source.
use Rattle.std.specs.Prelude.{ℕ, ◌+◌, nat_lt, List, [], length, drop, if◌then◌else◌, map, Option, None, Some}
use Rattle.std.specs.Borrow.{Bor}
use Rattle.mx_source.specs.declared.characters.Quotes.TheVariants.{Outside}
use Rattle.mx_source.specs.declared.operands.Indexed.{Indexed as CodeIndexed}
use Rattle.mx_source.specs.declared.pieces.Pieces.{Pieces}
use Rattle.mx_source.specs.Characters.{trim, parts}
use Rattle.mx_source.specs.Operands.{Indexed}

-- the number and the name
abbrev pub indexed_view : CodeIndexed → Indexed
indexed_view i = record { number = i.number; name = i.name.now }

-- the operands in what is left of a text
abbrev pub pieces_in : Option (Bor (List ℕ)) → List (List ℕ)
pieces_in None = []
pieces_in (Some text) = map trim (parts 44 Outside text.now)

-- the parts of a text between marks, after the first one, which ends at a place
unfoldable pub later_parts : ℕ → List ℕ → ℕ → List (List ℕ)
later_parts mark text place =
    if nat_lt place (length text) then parts mark Outside (drop (place + 1) text) else []

-- the operands that are left
abbrev pub pieces_left : Pieces → List (List ℕ)
pieces_left p = pieces_in p.rest

-- one operand, two, three
abbrev pub single_view : Bor (List ℕ) → List ℕ
single_view a = a.now

abbrev pub pair_view : Bor (List ℕ) × Bor (List ℕ) → List ℕ × List ℕ
pair_view p = (p.0.now, p.1.now)

abbrev pub triple_view : Bor (List ℕ) × Bor (List ℕ) × Bor (List ℕ) → List ℕ × List ℕ × List ℕ
triple_view t = (t.0.now, t.1.now, t.2.now)
