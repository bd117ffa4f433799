-- Maximal runs of equal neighbours in a list, and the blocks into which a map is cut.
-- The rules: docs/MACHINE.md, "Needs of the tables".
use Rattle.std.specs.Prelude.{ℕ, zero, suc, ◌+◌, ◌-◌, ◌*◌, ◌/◌, Bool, true, not, ◌==◌, ◌&&◌, ◌||◌, nat_lt, List, [], ◌∷◌, ◌++◌, length}
use Rattle.std.specs.Prelude.{take, drop, replicate, if◌then◌else◌, count_by}
use Rattle.std.specs.List.{list_all}
use Rattle.mx_words.specs.declared.perm.Perm.{Perm}
use Rattle.mx_words.specs.declared.perm.Perm.TheVariants as P
use Rattle.mx_words.specs.Rights.{same}
-- how many maximal runs of one owner there are at most
pub use Rattle.mx_words.specs.Limits.{most_owner_runs}

-- a maximal run: its length and its value
pub record Run (A : Type 0) : Type 0 where
  pub count : ℕ
  pub value : A

-- a list's runs with one more element in front
abbrev pub run_before : {A : Type 0} → (A → A → Bool) → A → List (Run A) → List (Run A)
run_before eq x [] = record { count = 1; value = x } ∷ []
run_before eq x (r ∷ rs) =
    if eq x r.value then record { count = r.count + 1; value = x } ∷ rs
    else record { count = 1; value = x } ∷ r ∷ rs

-- the maximal runs of equal neighbours, in order
abbrev pub runs_of : {A : Type 0} → (A → A → Bool) → List A → List (Run A)
runs_of eq [] = []
runs_of eq (x ∷ xs) = run_before eq x (runs_of eq xs)

-- the number of maximal runs of equal permissions
abbrev pub runs : List Perm → ℕ
runs m = length (runs_of same m)

-- the number of maximal runs of equal owners
abbrev pub owner_runs : List ℕ → ℕ
owner_runs os = length (runs_of (λ a b. a == b) os)

-- the sizes of the blocks of words: a line, a page, a region
abbrev pub line_words : ℕ
line_words = 16

abbrev pub page_words : ℕ
page_words = 1024

abbrev pub region_words : ℕ
region_words = 1048576

-- x as the first element of the first piece
abbrev pub in_first : {A : Type 0} → A → List (List A) → List (List A)
in_first x [] = (x ∷ []) ∷ []
in_first x (piece ∷ rest) = (x ∷ piece) ∷ rest

-- a list in pieces of `size` elements, the last one perhaps shorter, where `left` elements may follow the first in its piece
abbrev pub pieces_from : {A : Type 0} → ℕ → ℕ → List A → List (List A)
pieces_from size left [] = []
pieces_from size zero (x ∷ xs) = (x ∷ []) ∷ pieces_from size (size - 1) xs
pieces_from size (suc left) (x ∷ xs) = in_first x (pieces_from size left xs)

abbrev pub pieces : {A : Type 0} → ℕ → List A → List (List A)
pieces size xs = pieces_from size (size - 1) xs

-- whether `size` words have one permission, those beyond the list lying outside RAM and having none
abbrev pub is_uniform : ℕ → List Perm → Bool
is_uniform size [] = true
is_uniform size (p ∷ ps) = list_all (same p) ps && (same p P.None || length ps + 1 == size)

-- whether each of the eight equal parts of a block of `size` words has one permission
abbrev pub is_eighth_uniform : ℕ → List Perm → Bool
is_eighth_uniform size block = list_all (is_uniform (size / 8)) (pieces (size / 8) block)

-- how many aligned blocks of `size` words of a map aren't eighth-uniform
abbrev pub broken_blocks : ℕ → List Perm → ℕ
broken_blocks size m = count_by (λ block. not (is_eighth_uniform size block)) (pieces size m)

-- the aligned block of `size` words that holds word i
abbrev pub block_at : ℕ → List Perm → ℕ → List Perm
block_at size m i = take size (drop (i / size * size) m)

-- a line with its words outside RAM, which have no permission
abbrev pub whole_line : List Perm → List Perm
whole_line line = line ++ replicate (line_words - length line) P.None

-- whether a line has more than four runs
abbrev pub is_crowded : List Perm → Bool
is_crowded line = nat_lt 4 (runs (whole_line line))

-- how many lines of a map have more than four runs
abbrev pub crowded_lines : List Perm → ℕ
crowded_lines m = count_by is_crowded (pieces line_words m)
