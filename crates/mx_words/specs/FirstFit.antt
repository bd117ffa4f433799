-- First fit: the lowest place for a block in a heap area.
-- The rules: docs/MACHINE.md, "Supervisor calls".
use Rattle.std.specs.Prelude.{ℕ, ◌+◌, ◌<◌, ◌≤◌, Bool, not, ◌&&◌, ◌==◌, nat_lt, nat_le, List, [], ◌∷◌, filter, find, Option, option_map}
use Rattle.std.specs.Prelude.{if◌then◌else◌}
use Rattle.std.specs.List.{list_any, range_with_len}
use Rattle.mx_words.specs.Ranges.{overlaps}
-- how many live blocks a heap has at most
pub use Rattle.mx_words.specs.Limits.{most_blocks}

-- a live block or an area: the words first to first + count - 1
pub record Area : Type 0 where
  pub first : ℕ
  pub count : ℕ

-- whether n words from word a on lie in the area and meet no live block
abbrev pub has_room : Area → List Area → ℕ → ℕ → Bool
has_room area blocks n a =
    nat_le area.first a && nat_le (a + n) (area.first + area.count) &&
    not (list_any (λ (b : Area). overlaps b.first b.count a n) blocks)

-- the least word with room for n words, and nothing where there is none
abbrev pub place : Area → List Area → ℕ → Option ℕ
place area blocks n = find (has_room area blocks n) (range_with_len area.first area.count)

-- a live block among those by address, and the blocks without the one that begins at a word
abbrev pub with_block : Area → List Area → List Area
with_block b [] = b ∷ []
with_block b (x ∷ xs) = if nat_lt b.first x.first then b ∷ x ∷ xs else x ∷ with_block b xs

abbrev pub without_block : ℕ → List Area → List Area
without_block first blocks = filter (λ (b : Area). not (b.first == first)) blocks

-- the number of words of the live block that begins at a word
abbrev pub block_words : List Area → ℕ → Option ℕ
block_words blocks first =
    option_map (λ (b : Area). b.count) (find (λ (b : Area). b.first == first) blocks)

-- live blocks of at least one word each, in the order of their addresses and apart, from word `low` on and before word `high`
abbrev pub AreApart : ℕ → ℕ → List Area → Type 0
AreApart low high [] = low ≤ high
AreApart low high (b ∷ bs) = (low ≤ b.first) × (0 < b.count) × AreApart (b.first + b.count) high bs
