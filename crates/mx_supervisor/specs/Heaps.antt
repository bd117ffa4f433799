-- The heaps of all modules, in the modules' order.
use Rattle.std.specs.Prelude.{ℕ, ◌-◌, ◌==◌, List, [], slice_index_or, slice_set, if◌then◌else◌, Option, Some, None}
use Rattle.mx_words.specs.FirstFit.{Area, place, with_block}
use Rattle.mx_heap.specs.HeapState.{HeapState}

-- a module with no heap has an area of no words
abbrev pub no_area : Area
no_area = record { first = 0; count = 0 }

abbrev pub no_heap : HeapState
no_heap = record { area = no_area; blocks = [] }

-- an area of no words is (0, 0), wherever it was said to begin
abbrev pub told_area : Area → Area
told_area area = if area.count == 0 then no_area else area

abbrev pub told_heap : HeapState → HeapState
told_heap heap = record heap { area = told_area heap.area }

-- the heap in a slot; where nothing stands there is no heap
abbrev pub heap_in : Option HeapState → HeapState
heap_in None = no_heap
heap_in (Some heap) = told_heap heap

-- the heap of domain d; domains count from 1
abbrev pub heap_at : List HeapState → ℕ → HeapState
heap_at heaps d = slice_index_or heaps (d - 1) no_heap

-- where first fit puts a block of this many words in a heap
abbrev pub room_in : HeapState → ℕ → Option ℕ
room_in heap words = place heap.area heap.blocks words

-- a heap with one more live block
abbrev pub with_live : Area → HeapState → HeapState
with_live block heap = record heap { blocks = with_block block heap.blocks }

-- the heaps with other live blocks for domain d
abbrev pub with_blocks_at : ℕ → List Area → List HeapState → List HeapState
with_blocks_at d blocks heaps =
    slice_set heaps (d - 1) (record (heap_at heaps d) { blocks = blocks })

-- the heaps with one more live block for domain d
abbrev pub with_block_at : ℕ → Area → List HeapState → List HeapState
with_block_at d block heaps = with_blocks_at d (with_block block (heap_at heaps d).blocks) heaps
