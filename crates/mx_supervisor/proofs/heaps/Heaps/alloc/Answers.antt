use Rattle.std.proofs.Common.{◌≡◌, ◌-◌, true, arith, subst, sym}
use Rattle.mx_words.specs.FirstFit.{with_block}
use Rattle.mx_heap.specs.HeapState.{HeapState, may_live}
use Rattle.mx_supervisor.proofs.Slots.{slot-heap, slots-written}
use Rattle.mx_supervisor.proofs.heaps.Heaps.alloc.Goals as goal

pub returns : goal.returns
returns c = λ may.
    let heap = slot-heap c.self.inside.slots.items _ (c.args.domain - 1) c.index-as_mut_slice-domain.result c.args.self.now
    c.self.view_is c.as_mut_slice.ensures.value (omega (arith, c.requires.domain, c.requires.there)) in
    slots-written c.self.inside.slots.items _ (c.args.domain - 1) c.alloc_in.new.slot c.index-as_mut_slice-domain.result c.args.self.now
    (with_block (record { first = c.args.first; count = c.args.words }))
    c.self.view_is c.as_mut_slice.ensures.value (omega (arith, c.requires.domain, c.requires.there))
    (c.alloc_in.ensures (subst (λ (h : HeapState). may_live h (record { first = c.args.first; count = c.args.words }) ≡ true) (sym heap)
    may))
