use Rattle.std.proofs.Common.{◌≤◌, inl, inr, arith, eq-eqb}
use Rattle.std.proofs.lemmas.Bool.{ne_eqb}
use Rattle.mx_trie.specs.Laying.{laid_by, cuts}
use Rattle.mx_trie.proofs.LineBeside.{few-known}
use Rattle.mx_trie.proofs.RangeLaws.{length-with_range}
use Rattle.mx_trie.proofs.PageChanges.{page-covered, page-cut, page-beside, page-stays}
use Rattle.mx_trie.proofs.page.change_page.Goals as goal

pub open_page-frame-requires-clause-room : goal.open_page-frame-requires-clause-room
open_page-frame-requires-clause-room g c =
    search (arith, c.meets.ensures.yes, c.args.page, c.args.lay.now, c.covers.ensures.no)

pub change_lines-requires-clause-table : goal.change_lines-requires-clause-table
change_lines-requires-clause-table g c = (c.open_page-frame.ensures.opened c.args.spill.now c.requires.table).table

pub change_lines-requires-clause-stands : goal.change_lines-requires-clause-stands
change_lines-requires-clause-stands g c =
    let some = c.requires.stands in
    record {
      map = some.map;
      known = some.known;
      lines = (c.open_page-frame.ensures.opened c.args.spill.now c.requires.table).shown some.map
          some.known some.page;
    }

pub change_lines-requires-clause-room : goal.change_lines-requires-clause-room
change_lines-requires-clause-room g c = c.requires.spill_room

pub change_lines-requires-2-clause-room : goal.change_lines-requires-2-clause-room
change_lines-requires-2-clause-room g c = c.requires.spill_room

pub change_lines-requires-2-clause-stands : goal.change_lines-requires-2-clause-stands
change_lines-requires-2-clause-stands g c =
    let some = c.requires.stands in
    record { map = some.map; known = some.known; lines = some.page.lines (eq-eqb _ 0 c.if-entry-ne0.false) }

pub close_page-requires-clause-table : goal.close_page-requires-clause-table
close_page-requires-clause-table g c =
    let some = c.requires.stands in
    let opened = c.open_page-frame.ensures.opened c.args.spill.now c.requires.table in
    let few = few-known g.L.LeafForm.kind some.map c.args.lay.now c.args.beside.now some.known in (
      c.change_lines.new.spill,
      record {
        table = c.change_lines.ensures.table;
        stands = record {
          map = laid_by c.args.lay.now some.map;
          few = omega (arith, few, length-with_range c.args.lay.now.first c.args.lay.now.end c.args.lay.now.perm some.map);
          lines = c.change_lines.ensures.shown some.map some.known (opened.shown some.map some.known some.page);
        };
      },
    )

pub returns-then-covers : goal.returns-then-covers
returns-then-covers g c =
    let covers = c.covers.ensures.yes c.if-covers.true in
    page-covered g.L.LeafForm.kind c.args.leaf.now c.args.spill.now c.args.lay.now c.args.beside.now c.args.page c.args.entry
    c.free_page.new.leaf c.free_page.new.spill covers.0 covers.1
    c.flat_vector.result c.flat_vector.ensures.value c.free_page.ensures

pub returns-then-meets : goal.returns-then-meets
returns-then-meets g c =
    let some = c.requires.stands in
    let meets = c.meets.ensures.yes c.if-meets.true in
    let before = meets.0 in
    let behind = meets.1 in
    let one : 1 ≤ cuts 1024 c.args.page c.args.lay.now =
    elim (c.covers.ensures.no c.if-covers.false) [ inl h ↦ omega arith | inr h ↦ omega arith ] in
    let opened = c.open_page-frame.ensures.opened c.args.spill.now c.requires.table in
    let few = few-known g.L.LeafForm.kind some.map c.args.lay.now c.args.beside.now some.known in
    page-cut g.L.LeafForm.kind c.args.leaf.now c.args.spill.now c.args.lay.now c.args.beside.now c.args.page c.args.entry
    c.open_page-frame.new.leaf c.change_lines.new.leaf c.change_lines.new.spill c.close_page.new.leaf c.open_page-frame.result
    c.close_page.result one opened c.change_lines.ensures
    (c.close_page.ensures c.change_lines.new.spill (record {
      table = c.change_lines.ensures.table;
      stands = record {
        map = laid_by c.args.lay.now some.map;
        few = omega (arith, few, length-with_range c.args.lay.now.first c.args.lay.now.end c.args.lay.now.perm some.map);
        lines = c.change_lines.ensures.shown some.map some.known (opened.shown some.map some.known some.page);
      };
    }))

pub returns-then-entry-ne0 : goal.returns-then-entry-ne0
returns-then-entry-ne0 g c = search (arith, page-stays, c.args.lay.now, c.args.beside.now, c.meets.ensures.no, ne_eqb)

pub returns : goal.returns
returns g c = search (arith, page-beside, c.args.lay.now, c.args.beside.now, c.meets.ensures.no, eq-eqb)
