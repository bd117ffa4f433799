use Rattle.std.proofs.Common.{◌≡◌, sym, Some, None, Option, ℕ}
use Rattle.std.specs.List.{position}
use Rattle.std.proofs.lemmas.List.{get_or_read}
use Rattle.mx_heap.specs.Places.{is_block_at, part_at, wall}
use Rattle.mx_heap.proofs.JoinLaws.{Standing, AfterJoin, after_join, standing, no_block}
use Rattle.mx_heap.proofs.OrderLaws.{in_order}
use Rattle.mx_heap.proofs.heap.Heap.block.Goals as goal

pub block_place-requires : goal.block_place-requires
block_place-requires c = rw c.deref.ensures.value (in_order _ _ _ _ _ c.self.invariant.are)

pub returns-in-Some : goal.returns-in-Some
returns-in-Some c =
    let told : ◌≡◌ {A = Option ℕ} (Some c.in-Some.i) (position (is_block_at c.args.first) c.deref.result.now) = c.in-Some.ensures in
    let e : position (is_block_at c.args.first) c.self.inside.parts.items ≡ Some c.in-Some.i = sym (rw c.deref.ensures.value at told) in
    let s : Standing c.self.inside.first _ c.self.inside.parts.items c.args.first c.in-Some.i =
    standing _ _ _ c.args.first c.in-Some.i c.self.invariant.are.fill e in
    let a : AfterJoin c.self.inside.first _ c.self.inside.parts.items c.in-Some.i =
    after_join _ _ _ c.in-Some.i c.self.invariant.are.fill s.within s.live in
    let part : c.index.result.now ≡ part_at c.self.inside.parts.items c.in-Some.i =
    get_or_read c.self.inside.parts.items c.in-Some.i c.index.result.now s.within c.index.ensures wall in
    rw (← c.self.view_is, part, ← s.begins) (record { count = sym a.found; inside = (s.some, (s.low_le, s.high_le)) })

pub returns-in-None : goal.returns-in-None
returns-in-None c =
    let told : ◌≡◌ {A = Option ℕ} None (position (is_block_at c.args.first) c.deref.result.now) = c.in-None.ensures in
    let e : position (is_block_at c.args.first) c.self.inside.parts.items ≡ None = sym (rw c.deref.ensures.value at told) in
    rw (← c.self.view_is) (record { count = sym (no_block c.self.inside.parts.items c.args.first e).0; inside = tt })
