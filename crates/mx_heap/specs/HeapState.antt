-- The meaning of a heap, and what its calls answer.
use Rattle.std.specs.Prelude.{ℕ, ◌+◌, ◌≤◌, Bool, ◌&&◌, nat_lt, List, length}
use Rattle.mx_words.specs.FirstFit.{Area, AreApart, has_room, most_blocks}
use Rattle.mx_heap.specs.declared.block.Block.{Block}

-- a heap: its area, and its live blocks in the order of their addresses
pub record HeapState : Type 0 where
  pub area : Area
  pub blocks : List Area

-- what is true of every heap: its blocks lie apart in its area, and they are no more than a heap may have
pub record IsHeap (heap : HeapState) : Type 0 where
  pub apart : AreApart heap.area.first (heap.area.first + heap.area.count) heap.blocks
  pub few : length heap.blocks ≤ most_blocks

-- n words from word a on lie in an area
abbrev pub LiesIn : Area → ℕ → ℕ → Type 0
LiesIn area a n = (area.first ≤ a) × (a + n ≤ area.first + area.count)

-- whether a block may become live: it has a word, has room in the area, and isn't one too many
abbrev pub may_live : HeapState → Area → Bool
may_live heap b =
    nat_lt 0 b.count && has_room heap.area heap.blocks b.count b.first &&
    nat_lt (length heap.blocks) most_blocks

-- a block as the words that it takes
abbrev pub area_of : Block → Area
area_of b = record { first = b.first; count = b.count }
