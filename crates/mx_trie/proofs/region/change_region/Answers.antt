use Rattle.std.proofs.Common.{◌%◌, ◌≤◌, inl, inr, arith, eq-eqb}
use Rattle.std.proofs.lemmas.Bool.{ne_eqb}
use Rattle.mx_trie.specs.Laying.{laid_by, cuts}
use Rattle.mx_trie.proofs.RegionChanges.{region-covered, region-cut, region-beside, region-stays}
use Rattle.mx_trie.proofs.region.change_region.Goals as goal

pub open_region-frame-requires : goal.open_region-frame-requires
open_region-frame-requires g c = record {
  room = λ closed.
      let meets = c.meets.ensures.yes c.if-meets.true in
      let before = meets.0 in
      let behind = meets.1 in
      let one : 1 ≤ cuts 1048576 c.args.region c.args.lay.now =
      elim (c.covers.ensures.no c.if-covers.false) [ inl h ↦ omega arith | inr h ↦ omega arith ] in
      omega (arith, one, c.requires.upper_room);
}

pub change_pages-requires-clause-table : goal.change_pages-requires-clause-table
change_pages-requires-clause-table g c =
    (c.open_region-frame.ensures.opened g.L.LeafForm.kind c.args.leaf.now c.args.spill.now c.requires.table).table

pub change_pages-requires-clause-stands : goal.change_pages-requires-clause-stands
change_pages-requires-clause-stands g c =
    let some = c.requires.stands in
    record {
      map = some.map;
      known = some.known;
      pages = (c.open_region-frame.ensures.opened g.L.LeafForm.kind c.args.leaf.now c.args.spill.now c.requires.table).shown some.map
          c.args.region some.region;
    }

pub returns-then-covers : goal.returns-then-covers
returns-then-covers g c =
    let covers = c.covers.ensures.yes c.if-covers.true in
    region-covered g.L.LeafForm.kind c.args.upper.now c.args.leaf.now c.args.spill.now c.args.lay.now c.args.beside.now c.args.region
    c.args.entry
    c.free_region.new.upper c.free_region.new.leaf c.free_region.new.spill covers.0 covers.1 c.flat_vector.result
    c.flat_vector.ensures.value c.free_region.ensures

pub returns-then-meets : goal.returns-then-meets
returns-then-meets g c =
    let some = c.requires.stands in
    let meets = c.meets.ensures.yes c.if-meets.true in
    let before = meets.0 in
    let behind = meets.1 in
    let one : 1 ≤ cuts 1048576 c.args.region c.args.lay.now =
    elim (c.covers.ensures.no c.if-covers.false) [ inl h ↦ omega arith | inr h ↦ omega arith ] in
    let opened = c.open_region-frame.ensures.opened g.L.LeafForm.kind c.args.leaf.now c.args.spill.now c.requires.table in
    region-cut g.L.LeafForm.kind c.args.upper.now c.args.leaf.now c.args.spill.now c.args.lay.now c.args.beside.now c.args.region
    c.args.entry
    c.open_region-frame.new.upper c.change_pages.new.upper c.change_pages.new.leaf c.change_pages.new.spill c.close_region.new.upper
    c.open_region-frame.result c.close_region.result one opened c.change_pages.ensures
    (c.close_region.ensures g.L.LeafForm.kind c.change_pages.new.leaf c.change_pages.new.spill (record {
      table = c.change_pages.ensures.table;
      map = laid_by c.args.lay.now some.map;
      stands = c.change_pages.ensures.shown some.map some.known (opened.shown some.map c.args.region some.region);
    }))

pub returns-then-entry-eq0 : goal.returns-then-entry-eq0
returns-then-entry-eq0 g c =
    region-beside g.L.LeafForm.kind c.args.upper.now c.args.leaf.now c.args.spill.now c.args.lay.now c.args.beside.now c.args.region
    c.args.entry
    c.change_pages-then-entry-eq0.new.upper c.change_pages-then-entry-eq0.new.leaf c.change_pages-then-entry-eq0.new.spill
    (c.meets.ensures.no c.if-meets.false) (eq-eqb (c.args.entry % 4) 0 c.if-entry-eq0.true) c.change_pages-then-entry-eq0.ensures

pub returns-else-entry-eq0 : goal.returns-else-entry-eq0
returns-else-entry-eq0 g c =
    region-stays g.L.LeafForm.kind c.args.upper.now c.args.leaf.now c.args.spill.now c.args.lay.now c.args.beside.now c.args.region
    c.args.entry
    (c.meets.ensures.no c.if-meets.false) (ne_eqb (c.args.entry % 4) 0 c.if-entry-eq0.false)
