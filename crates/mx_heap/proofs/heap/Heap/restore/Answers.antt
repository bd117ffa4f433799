use Rattle.std.proofs.Common.{◌≡◌, ◌+◌, ◌≤◌, ◌<◌, ◌&&◌, true, false, not, sym, arith, ap, length, List, Some, None, Option, ℕ, ◌∙◌}
use Rattle.std.specs.Prelude.{nat_lt, nat_le}
use Rattle.std.specs.List.{position}
use Rattle.std.proofs.lemmas.Bool.{and_from, and_left, and_right, and_parts, lt-ltb, leb-true, not-true}
use Rattle.std.proofs.lemmas.List.Quantifiers.{position-Some}
use Rattle.mx_words.specs.FirstFit.{Area, has_room, with_block, most_blocks}
use Rattle.mx_heap.specs.declared.parts.Part.{Part}
use Rattle.mx_heap.specs.HeapState.{HeapState}
use Rattle.mx_heap.specs.Places.{is_hole_around, part_at, wall, blocks_of}
use Rattle.mx_heap.proofs.RoomLaws.{part_bounds, position_none, room_in_hole, no_room_without}
use Rattle.mx_heap.proofs.EditLaws.{AfterSplit, after_split}
use Rattle.mx_heap.proofs.KeptParts.{two_more, kept_split}
use Rattle.mx_heap.proofs.heap.Heap.restore.Goals.{In-Some}
use Rattle.mx_heap.proofs.OrderLaws.{in_order}
use Rattle.mx_heap.proofs.ListLaws.{stored_rising}
use Rattle.mx_heap.proofs.heap.Heap.restore.Goals as goal

pub put_block-requires-clause-rising : goal.put_block-requires-clause-rising
put_block-requires-clause-rising c = stored_rising _ _ _ _ _ _ _ c.self.invariant

pub hole_around-requires-clause-order : goal.hole_around-requires-clause-order
hole_around-requires-clause-order c = rw c.deref.ensures.value (in_order _ _ _ _ _ c.self.invariant.are)

-- a heap with this area and these blocks
abbrev heap_of : ℕ → ℕ → List Area → HeapState
heap_of first count bs = record { area = record { first = first; count = count }; blocks = bs }

-- the hole that was found
record Hole (c : In-Some) : Type 0 where
  within : c.in-Some.i < length c.self.inside.parts.items
  around : is_hole_around c.args.first c.args.count (part_at c.self.inside.parts.items c.in-Some.i) ≡ true
  free : (part_at c.self.inside.parts.items c.in-Some.i).live ≡ false
  begins : (part_at c.self.inside.parts.items c.in-Some.i).first ≤ c.args.first
  ends : c.args.first + c.args.count ≤ (part_at c.self.inside.parts.items c.in-Some.i).first
      + (part_at c.self.inside.parts.items c.in-Some.i).count
  high : (part_at c.self.inside.parts.items c.in-Some.i).first + (part_at c.self.inside.parts.items c.in-Some.i).count ≤ c.self.inside.first
      + c.self.inside.count

hole_is : (c : In-Some) → Hole c
hole_is c =
    let told : ◌≡◌ {A = Option ℕ} (Some c.in-Some.i) (position (is_hole_around c.args.first c.args.count) c.deref.result.now) =
    c.in-Some.ensures in
    let e : position (is_hole_around c.args.first c.args.count) c.self.inside.parts.items ≡ Some c.in-Some.i =
    sym (rw c.deref.ensures.value at told) in
    let p : Part = part_at c.self.inside.parts.items c.in-Some.i in
    let at : (c.in-Some.i < length c.self.inside.parts.items) × (is_hole_around c.args.first c.args.count p ≡ true) × ((k : ℕ)
    → k < c.in-Some.i → is_hole_around c.args.first c.args.count (part_at c.self.inside.parts.items k) ≡ false) =
    position-Some (is_hole_around c.args.first c.args.count) c.self.inside.parts.items c.in-Some.i wall e in
    let sides : (not p.live ≡ true) × ((nat_le p.first c.args.first && nat_le (c.args.first + c.args.count) (p.first + p.count)) ≡ true) =
    and_parts (not p.live) (nat_le p.first c.args.first && nat_le (c.args.first + c.args.count) (p.first + p.count)) at.1 in
    let ends : (nat_le p.first c.args.first ≡ true) × (nat_le (c.args.first + c.args.count) (p.first + p.count) ≡ true) =
    and_parts (nat_le p.first c.args.first) (nat_le (c.args.first + c.args.count) (p.first + p.count)) sides.1 in
    record {
      within = at.0;
      around = at.1;
      free = not-true p.live sides.0;
      begins = leb-true p.first c.args.first ends.0;
      ends = leb-true (c.args.first + c.args.count) (p.first + p.count) ends.1;
      high = (part_bounds c.self.inside.first (c.self.inside.first + c.self.inside.count) true c.self.inside.parts.items c.in-Some.i
          c.self.invariant.are.fill at.0).2;
    }

split_is : (c : In-Some) → AfterSplit c.self.inside.first (c.self.inside.first + c.self.inside.count) true c.self.inside.parts.items
    c.in-Some.i c.args.first c.args.count
split_is c = after_split _ _ true c.self.inside.parts.items c.in-Some.i c.args.first c.args.count c.self.invariant.are.fill
    (hole_is c).within (hole_is c).free (omega arith) (hole_is c).begins (hole_is c).ends

pub returns-in-None-clause-restored : goal.returns-in-None-clause-restored
returns-in-None-clause-restored c =
    let area : Area = record { first = c.self.inside.first; count = c.self.inside.count } in
    let told : ◌≡◌ {A = Option ℕ} None (position (is_hole_around c.args.first c.args.count) c.deref.result.now) = c.in-None.ensures in
    let e : position (is_hole_around c.args.first c.args.count) c.self.inside.parts.items ≡ None = sym (rw c.deref.ensures.value at told) in
    let bs : List Area = blocks_of c.self.inside.parts.items in
    let some : 0 < c.args.count = omega arith in
    let shut : has_room area bs c.args.count c.args.first ≡ false =
    no_room_without area c.self.inside.parts.items c.self.invariant.are.fill c.args.first c.args.count some
    (position_none (is_hole_around c.args.first c.args.count) c.self.inside.parts.items e) in
    rw (← c.self.view_is)
    (sym (and_left (nat_lt 0 c.args.count && has_room area bs c.args.count c.args.first) (nat_lt (length bs) most_blocks)
    (and_right (nat_lt 0 c.args.count) (has_room area bs c.args.count c.args.first) shut)))

pub split_hole-requires : goal.split_hole-requires
split_hole-requires c =
    let h : Hole (goal.at.split_hole-requires c).In-Some = hole_is (goal.at.split_hole-requires c).In-Some in
    record {
      place = omega (arith, h.within);
      room = omega (arith, two_more _ _ _ _ _ c.self.invariant.are c.if-self-eq-BLOCKS.false);
      begins = h.begins;
      ends = h.ends;
      fits = omega (arith, h.high, c.self.invariant.are.in_ram);
    }

pub invariant_of-self : goal.invariant_of-self
invariant_of-self c =
    let d : In-Some = (goal.at.invariant_of-self c).In-Some in
    let b : Area = record { first = c.args.first; count = c.args.count } in
    record {
      are = kept_split _ _ _ _ _ c.self.invariant.are c.in-Some.i c.args.first c.args.count _ _ c.if-self-eq-BLOCKS.false
          (split_is d) c.split_hole.ensures.items c.split_hole.ensures.capacity;
      listed = c.put_block.ensures.items ∙ ap (λ (bs : List Area). with_block b bs) c.self.invariant.listed
          ∙ sym (ap (λ (ps : List Part). blocks_of ps) c.split_hole.ensures.items ∙ (split_is d).blocks);
      room_is = omega (arith, c.self.invariant.room_is, c.put_block.ensures.capacity);
    }

pub returns : goal.returns
returns c =
    let d : In-Some = (goal.at.returns c).In-Some in
    let area : Area = record { first = c.self.inside.first; count = c.self.inside.count } in
    let bs : List Area = blocks_of c.self.inside.parts.items in
    let some : 0 < c.args.count = omega arith in
    let less : length bs < most_blocks = omega (arith, c.self.invariant.are.counted, c.self.invariant.are.few, c.if-self-eq-BLOCKS.false) in
    let fits : has_room area bs c.args.count c.args.first ≡ true =
    room_in_hole area c.self.inside.parts.items c.self.invariant.are.fill c.in-Some.i c.args.first c.args.count (hole_is d).within
    (hole_is d).around in
    let new : blocks_of c.split_hole.new.parts.items ≡ with_block (record { first = c.args.first; count = c.args.count }) bs =
    ap (λ (ps : List Part). blocks_of ps) c.split_hole.ensures.items ∙ (split_is d).blocks in
    rw (← c.self.view_is) (record {
      restored = sym (and_from (nat_lt 0 c.args.count && has_room area bs c.args.count c.args.first) (nat_lt (length bs) most_blocks)
          (and_from (nat_lt 0 c.args.count) (has_room area bs c.args.count c.args.first) (lt-ltb 0 c.args.count some) fits)
          (lt-ltb (length bs) most_blocks less));
      live = ap (λ (xs : List Area). heap_of c.self.inside.first c.self.inside.count xs) new;
      unchanged = tt;
    })
