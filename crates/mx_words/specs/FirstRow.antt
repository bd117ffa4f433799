-- Rules of which the first that applies decides.
-- The rules: docs/MACHINE.md, "Instructions".
use Rattle.std.specs.Prelude.{Bool, List, [], ◌∷◌, if◌then◌else◌, Option, Some, None}

-- a row of rules: whether it applies, and what it then says
abbrev pub Row : Type 0 → Type 0
Row A = Bool × A

-- what the first row says that applies, and nothing where none does
abbrev pub first_row : {A : Type 0} → List (Row A) → Option A
first_row [] = None
first_row (row ∷ rows) = if row.0 then Some row.1 else first_row rows
