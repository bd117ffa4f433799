use Rattle.std.proofs.Common.{◌≡◌, ◌+◌, sym, arith, ap, List, Some, None, Option, ℕ, ◌∙◌}
use Rattle.std.specs.List.{position}
use Rattle.std.proofs.lemmas.List.{get_or_read}
use Rattle.mx_words.specs.FirstFit.{Area, without_block}
use Rattle.mx_heap.specs.declared.parts.Part.{Part}
use Rattle.mx_heap.specs.HeapState.{HeapState}
use Rattle.mx_heap.specs.Places.{is_block_at, part_at, wall, blocks_of}
use Rattle.mx_heap.proofs.JoinLaws.{Standing, AfterJoin, after_join, standing, no_block}
use Rattle.mx_heap.proofs.KeptParts.{kept_joined}
use Rattle.mx_heap.proofs.heap.Heap.free.Goals.{In-None, After-index}
use Rattle.mx_heap.proofs.OrderLaws.{in_order}
use Rattle.mx_heap.proofs.ListLaws.{stored_rising}
use Rattle.mx_heap.proofs.heap.Heap.free.Goals as goal

pub take_block-requires-clause-rising : goal.take_block-requires-clause-rising
take_block-requires-clause-rising c = stored_rising _ _ _ _ _ _ _ c.self.invariant

pub block_place-requires : goal.block_place-requires
block_place-requires c = rw c.deref.ensures.value (in_order _ _ _ _ _ c.self.invariant.are)

-- a heap with this area and these blocks
abbrev heap_of : ℕ → ℕ → List Area → HeapState
heap_of first count bs = record { area = record { first = first; count = count }; blocks = bs }

-- the block that was found
block_is : (c : After-index) → Standing c.self.inside.first (c.self.inside.first + c.self.inside.count) c.self.inside.parts.items
    c.args.first c.in-Some.i
block_is c =
    let told : ◌≡◌ {A = Option ℕ} (Some c.in-Some.i) (position (is_block_at c.args.first) c.deref.result.now) = c.in-Some.ensures in
    let e : position (is_block_at c.args.first) c.self.inside.parts.items ≡ Some c.in-Some.i = sym (rw c.deref.ensures.value at told) in
    standing _ _ _ c.args.first c.in-Some.i c.self.invariant.are.fill e

joined_is : (c : After-index) → AfterJoin c.self.inside.first (c.self.inside.first + c.self.inside.count) c.self.inside.parts.items
    c.in-Some.i
joined_is c = after_join _ _ _ c.in-Some.i c.self.invariant.are.fill (block_is c).within (block_is c).live

none_is : (c : In-None) → position (is_block_at c.args.first) c.self.inside.parts.items ≡ None
none_is c =
    let told : ◌≡◌ {A = Option ℕ} None (position (is_block_at c.args.first) c.deref.result.now) = c.in-None.ensures in
    sym (rw c.deref.ensures.value at told)

pub returns-in-None-clause-count : goal.returns-in-None-clause-count
returns-in-None-clause-count c = rw (← c.self.view_is) (sym (no_block c.self.inside.parts.items c.args.first
    (none_is (goal.at.returns-in-None-clause-count c).In-None)).0)

pub returns-in-None-clause-ended : goal.returns-in-None-clause-ended
returns-in-None-clause-ended c = rw (← c.self.view_is)
    (ap (λ (bs : List Area). heap_of c.self.inside.first c.self.inside.count bs)
    (sym (no_block c.self.inside.parts.items c.args.first (none_is (goal.at.returns-in-None-clause-ended c).In-None)).1))

pub join_holes-requires : goal.join_holes-requires
join_holes-requires c =
    let d : After-index = (goal.at.join_holes-requires c).After-index in
    record {
      place = omega (arith, (block_is d).within);
      low = (joined_is d).before;
      high = omega (arith, (joined_is d).words, c.self.invariant.are.in_ram);
    }

pub overflow_sub-self : goal.overflow_sub-self
overflow_sub-self c = omega (arith, (joined_is (goal.at.overflow_sub-self c).After-index).fewer, c.self.invariant.are.counted)

pub invariant_of-self : goal.invariant_of-self
invariant_of-self c =
    let d : After-index = (goal.at.invariant_of-self c).After-index in
    let s : Standing c.self.inside.first (c.self.inside.first + c.self.inside.count) c.self.inside.parts.items c.args.first c.in-Some.i =
    block_is d in
    record {
      are = kept_joined _ _ _ _ _ c.self.invariant.are c.in-Some.i _ _ (joined_is d) c.join_holes.ensures.items
          c.join_holes.ensures.capacity;
      listed = c.take_block.ensures.items ∙ ap (λ (bs : List Area). without_block c.args.first bs) c.self.invariant.listed
          ∙ ap (λ (n : ℕ). without_block n (blocks_of c.self.inside.parts.items)) (sym s.begins)
          ∙ sym (ap (λ (ps : List Part). blocks_of ps) c.join_holes.ensures.items ∙ (joined_is d).blocks);
      room_is = omega (arith, c.self.invariant.room_is, c.take_block.ensures.capacity);
    }

pub returns : goal.returns
returns c =
    let d : After-index = (goal.at.returns c).After-index in
    let s : Standing d.self.inside.first (d.self.inside.first + d.self.inside.count) d.self.inside.parts.items d.args.first d.in-Some.i =
    block_is d in
    let a : AfterJoin d.self.inside.first (d.self.inside.first + d.self.inside.count) d.self.inside.parts.items d.in-Some.i = joined_is d in
    let part : d.index.result.now ≡ part_at d.self.inside.parts.items d.in-Some.i =
    get_or_read d.self.inside.parts.items d.in-Some.i d.index.result.now s.within d.index.ensures wall in
    let new : blocks_of c.join_holes.new.parts.items ≡ without_block (part_at d.self.inside.parts.items d.in-Some.i).first
    (blocks_of d.self.inside.parts.items) =
    ap (λ (ps : List Part). blocks_of ps) c.join_holes.ensures.items ∙ a.blocks in
    rw (← c.self.view_is, part, ← s.begins) (record {
      count = sym a.found;
      inside = (s.some, (s.low_le, s.high_le));
      ended = ap (λ (bs : List Area). heap_of d.self.inside.first d.self.inside.count bs) new;
      unchanged = tt;
    })
