-- Inner: how a heap stores its area, as parts in the order of their addresses, live blocks and the holes between them. No contract of
-- another crate
-- cites this file; what a heap means is HeapState, over the definitions of first fit.
use Rattle.std.specs.Prelude.{ℕ, ◌≡◌, ◌+◌, ◌-◌, ◌*◌, ◌<◌, ◌≤◌, Bool, true, false, not, ◌&&◌, ◌==◌, nat_lt, nat_le, List, [], ◌∷◌, length}
use Rattle.std.specs.Prelude.{map, slice_index_or, slice_set, if◌then◌else◌, Option, Some, None, Result, Ok, Err}
use Rattle.std.specs.List.{insert, remove, position_or_len}
use Rattle.mx_words.specs.FirstFit.{Area, most_blocks}
use Rattle.mx_words.specs.Ranges.{most_words}
use Rattle.mx_heap.specs.declared.block.Block.{Block}
use Rattle.mx_heap.specs.declared.block.HeapError.{HeapError}
use Rattle.mx_heap.specs.declared.block.HeapError.TheVariants.{NoRoom, BlocksFull}
use Rattle.mx_heap.specs.declared.parts.Part.{Part}
use Rattle.mx_heap.specs.HeapState.{area_of}

-- what a part's place shows beyond the last part: nothing that a hole could be merged with
abbrev pub wall : Part
wall = record { first = 0; count = 0; live = true }

abbrev pub part_at : List Part → ℕ → Part
part_at parts i = slice_index_or parts i wall

-- a hole, and a live block
abbrev pub hole : ℕ → ℕ → Part
hole first count = record { first = first; count = count; live = false }

abbrev pub live_part : ℕ → ℕ → Part
live_part first count = record { first = first; count = count; live = true }

-- whether a part is a hole of at least n words, a hole with the words of a block, the live block that begins at a word
abbrev pub is_hole_for : ℕ → Part → Bool
is_hole_for n p = not p.live && nat_le n p.count

abbrev pub is_hole_around : ℕ → ℕ → Part → Bool
is_hole_around first count p =
    not p.live && (nat_le p.first first && nat_le (first + count) (p.first + p.count))

abbrev pub is_block_at : ℕ → Part → Bool
is_block_at first p = p.live && p.first == first

-- what a search for a hole comes to, where so many blocks live
abbrev pub fitting : Option ℕ → ℕ → Result ℕ HeapError
fitting None live = Err NoRoom
fitting (Some i) live = if live == most_blocks then Err BlocksFull else Ok i

-- the words of part i where it is a hole
abbrev pub hole_words : List Part → ℕ → ℕ
hole_words parts i = if (part_at parts i).live then 0 else (part_at parts i).count

-- a hole of that many words put at place i, where it has a word
abbrev pub with_hole : List Part → ℕ → ℕ → ℕ → List Part
with_hole parts i first count = if nat_lt 0 count then insert parts i (hole first count) else parts

-- part i taken out, where it is a hole with a word
abbrev pub without_hole : List Part → ℕ → ℕ → List Part
without_hole parts i count = if nat_lt 0 count then remove parts i else parts

-- the parts with a block in the hole at place i, and what is left of the hole before and after it
abbrev pub split : List Part → ℕ → ℕ → ℕ → List Part
split parts i first count =
    let h : Part = part_at parts i in
    with_hole
    (with_hole (slice_set parts i (live_part first count)) (i + 1) (first + count)
    (h.first + h.count - (first + count))) i h.first (first - h.first)

-- the parts with a hole in place of the block at place i, merged with the holes around it
abbrev pub joined : List Part → ℕ → List Part
joined parts i =
    let before : ℕ = hole_words parts (i - 1) in
    let behind : ℕ = hole_words parts (i + 1) in
    let b : Part = part_at parts i in
    without_hole
    (without_hole (slice_set parts i (hole (b.first - before) (before + b.count + behind)))
    (i + 1) behind) (i - 1) before

-- the live blocks among the parts
abbrev pub blocks_of : List Part → List Area
blocks_of [] = []
blocks_of (p ∷ ps) =
    if p.live then record { first = p.first; count = p.count } ∷ blocks_of ps else blocks_of ps

-- parts of at least one word that fill the words from `low` to before `high`, of which no two neighbours are holes; `after_live` says
-- whether what stands before them is no hole
abbrev pub Fill : ℕ → ℕ → Bool → List Part → Type 0
Fill low high after_live [] = low ≡ high
Fill low high after_live (p ∷ ps) =
    (p.first ≡ low) × (0 < p.count) × (after_live ≡ false → p.live ≡ true) ×
    Fill (low + p.count) high p.live ps

-- parts of at least one word, in the order of their addresses and apart, of which a heap has at most 2049
pub record AreInOrder (parts : List Part) : Type 0 where
  pub few : length parts ≤ 2 * most_blocks + 1
  pub some : (i : ℕ) → i < length parts → 0 < (part_at parts i).count
  pub apart : (i j : ℕ) → i < j → j < length parts →
      (part_at parts i).first + (part_at parts i).count ≤ (part_at parts j).first

-- how many parts begin at a word or before it, where they are in order
abbrev pub parts_to : ℕ → List Part → ℕ
parts_to word parts = position_or_len (λ (p : Part). nat_lt word p.first) parts

-- what stays true of a heap's fields
pub record AreParts (first count : ℕ) (parts : List Part) (live capacity : ℕ) : Type 0 where
  pub in_ram : first + count ≤ most_words
  pub fill : Fill first (first + count) true parts
  pub counted : live ≡ length (blocks_of parts)
  pub few : live ≤ most_blocks
  pub room : 2 * most_blocks + 1 ≤ capacity

-- what stands beyond the last block of a list
abbrev pub no_block : Block
no_block = record { first = 0; count = 0 }

abbrev pub listed_at : List Block → ℕ → Block
listed_at blocks i = slice_index_or blocks i no_block

-- listed blocks in the order of their addresses
abbrev pub AreRising : List Block → Type 0
AreRising blocks =
    (i j : ℕ) → i < j → j < length blocks → (listed_at blocks i).first < (listed_at blocks j).first

-- the same beside a list of the live blocks alone
pub record AreStored (first count : ℕ) (parts : List Part) (live capacity : ℕ) (blocks : List Block)
    (room : ℕ) : Type 0 where
  pub are : AreParts first count parts live capacity
  pub listed : map area_of blocks ≡ blocks_of parts
  pub room_is : most_blocks ≤ room
