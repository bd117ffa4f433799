-- What is true of every heap of a module.
use Rattle.std.specs.Prelude.{◌≡◌}
use Rattle.mx_heap.specs.HeapState.{HeapState, IsHeap}

-- its blocks lie apart in its area, they are no more than a heap may have, and an area of no words is (0, 0)
pub record IsTold (h : HeapState) : Type 0 where
  pub heap : IsHeap h
  pub no_words : h.area.count ≡ 0 → h.area.first ≡ 0
