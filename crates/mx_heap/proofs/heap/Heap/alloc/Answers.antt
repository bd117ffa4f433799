use Rattle.std.proofs.Common.{true, ◌≡◌, ◌+◌, ◌≤◌, sym, arith, ap, length, List, Ok, Err, Result, ℕ, ◌∙◌}
use Rattle.std.specs.List.{position}
use Rattle.std.proofs.lemmas.List.{get_or_read}
use Rattle.mx_words.specs.FirstFit.{Area, place, with_block}
use Rattle.mx_heap.specs.declared.parts.Part.{Part}
use Rattle.mx_heap.specs.declared.block.HeapError.{HeapError}
use Rattle.mx_heap.specs.HeapState.{HeapState}
use Rattle.mx_heap.specs.Places.{fitting, is_hole_for, part_at, wall, blocks_of}
use Rattle.mx_heap.proofs.Answering.{Answers, Found, answers_ok, answers_err, found}
use Rattle.mx_heap.proofs.EditLaws.{AfterSplit, after_split}
use Rattle.mx_heap.proofs.KeptParts.{is_heap, two_more, kept_split}
use Rattle.mx_heap.proofs.heap.Heap.alloc.Goals.{In-Err, After-index}
use Rattle.mx_heap.proofs.ListLaws.{stored_rising}
use Rattle.mx_heap.proofs.heap.Heap.alloc.Goals as goal

pub put_block-requires-clause-rising : goal.put_block-requires-clause-rising
put_block-requires-clause-rising c = stored_rising _ _ _ _ _ _ _ c.self.invariant

-- a heap with this area and these blocks
abbrev heap_of : ℕ → ℕ → List Area → HeapState
heap_of first count bs = record { area = record { first = first; count = count }; blocks = bs }

-- the hole that was found
hole_at : (c : After-index) → fitting (position (is_hole_for c.args.words) c.self.inside.parts.items) c.self.inside.live ≡ Ok c.in-Ok.i
hole_at c =
    let told : ◌≡◌ {A = Result ℕ HeapError} (Ok c.in-Ok.i) (fitting (position (is_hole_for c.args.words) c.deref.result.now)
    c.self.inside.live) = c.in-Ok.ensures in
    sym (rw c.deref.ensures.value at told)

hole_is : (c : After-index) → Found (record { first = c.self.inside.first; count = c.self.inside.count }) c.self.inside.parts.items
    c.self.invariant.are.fill c.self.inside.live c.self.invariant.are.counted c.args.words c.requires c.in-Ok.i
hole_is c = found (record { first = c.self.inside.first; count = c.self.inside.count }) _ c.self.invariant.are.fill c.self.inside.live
    c.self.invariant.are.counted c.args.words c.requires c.in-Ok.i (hole_at c)

-- it is read
part_is : (c : After-index) → c.index.result.now ≡ part_at c.self.inside.parts.items c.in-Ok.i
part_is c = get_or_read c.self.inside.parts.items c.in-Ok.i c.index.result.now (hole_is c).within c.index.ensures wall

-- the block put into it
split_is : (c : After-index) → AfterSplit c.self.inside.first (c.self.inside.first + c.self.inside.count) true c.self.inside.parts.items
    c.in-Ok.i c.index.result.now.first c.args.words
split_is c =
    let at : Found (record { first = c.self.inside.first; count = c.self.inside.count }) c.self.inside.parts.items c.self.invariant.are.fill
    c.self.inside.live c.self.invariant.are.counted c.args.words c.requires c.in-Ok.i = hole_is c in
    rw (part_is c) (after_split c.self.inside.first (c.self.inside.first + c.self.inside.count) true c.self.inside.parts.items c.in-Ok.i
    (part_at c.self.inside.parts.items c.in-Ok.i).first c.args.words
    c.self.invariant.are.fill at.within at.free c.requires (omega arith) (omega (arith, at.long)))

refused : (c : In-Err) → Answers (place (record { first = c.self.inside.first; count = c.self.inside.count })
    (blocks_of c.self.inside.parts.items) c.args.words) (length (blocks_of c.self.inside.parts.items)) (Err c.in-Err.refusal)
refused c =
    let told : ◌≡◌ {A = Result ℕ HeapError} (Err c.in-Err.refusal)
    (fitting (position (is_hole_for c.args.words) c.deref.result.now) c.self.inside.live) = c.in-Err.ensures in
    let e : fitting (position (is_hole_for c.args.words) c.self.inside.parts.items) c.self.inside.live ≡ Err c.in-Err.refusal =
    sym (rw c.deref.ensures.value at told) in
    answers_err (record { first = c.self.inside.first; count = c.self.inside.count }) _ c.self.invariant.are.fill c.self.inside.live
    c.self.invariant.are.counted c.args.words c.requires c.in-Err.refusal e

pub returns-in-Err-clause-no_room : goal.returns-in-Err-clause-no_room
returns-in-Err-clause-no_room c = rw (← c.self.view_is) (refused (goal.at.returns-in-Err-clause-no_room c).In-Err).no_room

pub returns-in-Err-clause-full : goal.returns-in-Err-clause-full
returns-in-Err-clause-full c = rw (← c.self.view_is) (refused (goal.at.returns-in-Err-clause-full c).In-Err).full

pub returns-in-Err-clause-heap : goal.returns-in-Err-clause-heap
returns-in-Err-clause-heap c = rw (← c.self.view_is) (is_heap _ _ _ _ _ c.self.invariant.are)

pub returns-in-Err-clause-still : goal.returns-in-Err-clause-still
returns-in-Err-clause-still c = rw (← c.self.view_is) (is_heap _ _ _ _ _ c.self.invariant.are)

pub split_hole-requires : goal.split_hole-requires
split_hole-requires c =
    let d : After-index = (goal.at.split_hole-requires c).After-index in
    let at : Found (record { first = d.self.inside.first; count = d.self.inside.count }) d.self.inside.parts.items d.self.invariant.are.fill
    d.self.inside.live d.self.invariant.are.counted d.args.words d.requires d.in-Ok.i = hole_is d in
    let part : d.index.result.now ≡ part_at d.self.inside.parts.items d.in-Ok.i = part_is d in
    record {
      place = omega (arith, at.within);
      room = omega (arith, two_more _ _ _ _ _ d.self.invariant.are at.less);
      begins = rw part (omega arith);
      ends = rw part (omega (arith, at.long));
      fits = omega (arith, at.high, d.self.invariant.are.in_ram);
    }

pub invariant_of-self : goal.invariant_of-self
invariant_of-self c =
    let d : After-index = (goal.at.invariant_of-self c).After-index in
    let b : Area = record { first = c.index.result.now.first; count = c.args.words } in
    record {
      are = kept_split _ _ _ _ _ c.self.invariant.are c.in-Ok.i c.index.result.now.first c.args.words _ _ (hole_is d).less (split_is d)
          c.split_hole.ensures.items c.split_hole.ensures.capacity;
      listed = c.put_block.ensures.items ∙ ap (λ (bs : List Area). with_block b bs) c.self.invariant.listed
          ∙ sym (ap (λ (ps : List Part). blocks_of ps) c.split_hole.ensures.items ∙ (split_is d).blocks);
      room_is = omega (arith, c.self.invariant.room_is, c.put_block.ensures.capacity);
    }

pub returns : goal.returns
returns c =
    let d : After-index = (goal.at.returns c).After-index in
    let at : Found (record { first = d.self.inside.first; count = d.self.inside.count }) d.self.inside.parts.items d.self.invariant.are.fill
    d.self.inside.live d.self.invariant.are.counted d.args.words d.requires d.in-Ok.i = hole_is d in
    let part : d.index.result.now ≡ part_at d.self.inside.parts.items d.in-Ok.i = part_is d in
    let a : Answers (place (record { first = d.self.inside.first; count = d.self.inside.count }) (blocks_of d.self.inside.parts.items)
    d.args.words) (length (blocks_of d.self.inside.parts.items)) (Ok d.index.result.now.first) =
    rw part (answers_ok (record { first = d.self.inside.first; count = d.self.inside.count }) _ d.self.invariant.are.fill d.self.inside.live
    d.self.invariant.are.counted d.args.words d.requires d.in-Ok.i (hole_at d)) in
    let low : d.self.inside.first ≤ d.index.result.now.first = rw part at.low in
    let high : d.index.result.now.first + d.args.words ≤ d.self.inside.first + d.self.inside.count =
    rw part (omega (arith, at.long, at.high)) in
    let new : blocks_of c.split_hole.new.parts.items ≡ with_block (record { first = d.index.result.now.first; count = d.args.words })
    (blocks_of d.self.inside.parts.items) =
    ap (λ (ps : List Part). blocks_of ps) c.split_hole.ensures.items ∙ (split_is d).blocks in
    let kept = kept_split _ _ _ _ _ d.self.invariant.are d.in-Ok.i d.index.result.now.first d.args.words _ _ at.less (split_is d)
    c.split_hole.ensures.items c.split_hole.ensures.capacity in
    rw (← c.self.view_is) (record {
      ok = a.ok;
      no_room = a.no_room;
      full = a.full;
      inside = (low, high);
      heap = is_heap _ _ _ _ _ d.self.invariant.are;
      still = is_heap _ _ _ _ _ kept;
      live = ap (λ (bs : List Area). heap_of d.self.inside.first d.self.inside.count bs) new;
      unchanged = tt;
    })
