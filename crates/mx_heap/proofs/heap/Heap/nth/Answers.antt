use Rattle.mx_heap.proofs.KeptParts.{is_heap}
use Rattle.mx_heap.proofs.heap.Heap.nth.Goals as goal

pub returns-clause-heap : goal.returns-clause-heap
returns-clause-heap c = rw (← c.self.view_is) (is_heap _ _ _ _ _ c.self.invariant.are)
