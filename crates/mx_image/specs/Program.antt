-- A program: what the text of a source denotes.
-- The rules: docs/COMMANDS.md, "The image".
use Rattle.std.specs.Prelude.{ℕ, ◌==◌, Bool, not, List, [], ◌∷◌, ◌++◌, length, map, filter, sum_by, fold}
use Rattle.mx_image.specs.declared.segment.Segment.{Segment}

-- a label: the bytes of its name, and the address for which it stands
pub record Label : Type 0 where
  pub name : List ℕ
  pub address : ℕ

-- the label with a name and an address
abbrev pub label : List ℕ → ℕ → Label
label name address = record { name = name; address = address }

-- a program: the address at which it begins, its segments in order, those without bytes too, and its labels in text order
pub record Program : Type 0 where
  pub entry : ℕ
  pub segments : List Segment
  pub labels : List Label

-- whether a segment has bytes
abbrev pub has_bytes : Segment → Bool
has_bytes s = not (length s.bytes == 0)

-- the segments that have bytes, in order
abbrev pub filled : List Segment → List Segment
filled segments = filter has_bytes segments

-- the bytes of each of a program's segments that has some
abbrev pub filled_bytes : Program → List (List ℕ)
filled_bytes p = map (λ s. s.bytes) (filled p.segments)

-- how many bytes segments have together
abbrev pub byte_count : List Segment → ℕ
byte_count segments = sum_by (λ s. length s.bytes) segments

-- the program that begins at 0 and has nothing else
abbrev pub no_program : Program
no_program = record { entry = 0; segments = []; labels = [] }

-- a program with another entry
abbrev pub with_entry : ℕ → Program → Program
with_entry entry p = record p { entry = entry }

-- with one more segment
abbrev pub with_segment : Segment → Program → Program
with_segment s p = record p { segments = p.segments ++ s ∷ [] }

-- with one more label
abbrev pub with_label : Label → Program → Program
with_label l p = record p { labels = p.labels ++ l ∷ [] }

-- segments with one more byte at the end of the last one
abbrev pub with_last_byte : ℕ → List Segment → List Segment
with_last_byte b [] = []
with_last_byte b (s ∷ []) = record s { bytes = s.bytes ++ b ∷ [] } ∷ []
with_last_byte b (s ∷ t ∷ segments) = s ∷ with_last_byte b (t ∷ segments)

-- a program with one more byte in its last segment
abbrev pub with_byte : ℕ → Program → Program
with_byte b p = record p { segments = with_last_byte b p.segments }

-- with bytes, one after the other, in its last segment
abbrev pub with_bytes : List ℕ → Program → Program
with_bytes bytes p = fold (λ q b. with_byte b q) p bytes
