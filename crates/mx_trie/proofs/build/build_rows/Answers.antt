use Rattle.std.proofs.Common.{◌≡◌, ℕ, [], length, get_or, ap, sym, ◌∙◌, subst, arith}
use Rattle.std.proofs.lemmas.List.{get_or_default}
use Rattle.mx_table.specs.Tables.{row_map}
use Rattle.mx_trie.specs.Built.{rows_map}
use Rattle.mx_trie.proofs.BuiltRows.{AreRowsBuilt, length-row, rows-none, upper-left, leaf-left, spill-left, rows-more, rows-built}
use Rattle.mx_trie.proofs.build.build_rows.Goals as goal

pub loop-row-init : goal.loop-row-init
loop-row-init g c =
    rows-none g.L.LeafForm.kind g.met.L.LeafForm.trie (rows_map c.args.words c.args.rows.now) c.args.upper.now c.args.leaf.now
    c.args.spill.now c.new-roots.result c.new-roots.ensures

pub build_root-root-requires-clause-words : goal.build_root-root-requires-clause-words
build_root-root-requires-clause-words g c = sym (length-row c.args.words c.row-item.result)

pub build_root-root-requires-clause-upper_room : goal.build_root-root-requires-clause-upper_room
build_root-root-requires-clause-upper_room g c =
    let item = c.row-item.result in
    upper-left g.L.LeafForm.kind g.met.L.LeafForm.trie (rows_map c.args.words c.args.rows.now) c.args.upper.now c.args.leaf.now
    c.args.spill.now
    c.loop-row.upper c.loop-row.leaf c.loop-row.spill c.loop-row.roots c.loop-row.row-index c.loop-row.invariant (row_map c.args.words item)
    (ap (row_map c.args.words) (c.row-item.is ∙ get_or_default c.args.rows.now c.loop-row.row-index item [] c.loop-row-test.true))
    (omega (arith, length-row c.args.words item, c.requires.small))
    (length c.args.rows.now) c.loop-row-test.true c.requires.room

pub build_root-root-requires-clause-leaf_room : goal.build_root-root-requires-clause-leaf_room
build_root-root-requires-clause-leaf_room g c =
    let item = c.row-item.result in
    leaf-left g.L.LeafForm.kind g.met.L.LeafForm.trie (rows_map c.args.words c.args.rows.now) c.args.upper.now c.args.leaf.now
    c.args.spill.now
    c.loop-row.upper c.loop-row.leaf c.loop-row.spill c.loop-row.roots c.loop-row.row-index c.loop-row.invariant (row_map c.args.words item)
    (ap (row_map c.args.words) (c.row-item.is ∙ get_or_default c.args.rows.now c.loop-row.row-index item [] c.loop-row-test.true))
    (omega (arith, length-row c.args.words item, c.requires.small))
    (length c.args.rows.now) c.loop-row-test.true c.requires.room

pub build_root-root-requires-clause-spill_room : goal.build_root-root-requires-clause-spill_room
build_root-root-requires-clause-spill_room g c =
    let item = c.row-item.result in
    spill-left g.L.LeafForm.kind g.met.L.LeafForm.trie (rows_map c.args.words c.args.rows.now) c.args.upper.now c.args.leaf.now
    c.args.spill.now
    c.loop-row.upper c.loop-row.leaf c.loop-row.spill c.loop-row.roots c.loop-row.row-index c.loop-row.invariant (row_map c.args.words item)
    (ap (row_map c.args.words) (c.row-item.is ∙ get_or_default c.args.rows.now c.loop-row.row-index item [] c.loop-row-test.true))
    (omega (arith, length-row c.args.words item, c.requires.small))
    (length c.args.rows.now) c.loop-row-test.true c.requires.room

pub loop-row-preserved : goal.loop-row-preserved
loop-row-preserved g c =
    let item = c.row-item.result in
    let n = c.build_root-root.new in
    rows-more g.L.LeafForm.kind g.met.L.LeafForm.trie (rows_map c.args.words c.args.rows.now) c.args.upper.now c.args.leaf.now
    c.args.spill.now
    c.loop-row.upper c.loop-row.leaf c.loop-row.spill c.loop-row.roots c.loop-row.row-index c.loop-row.invariant (row_map c.args.words item)
    (ap (row_map c.args.words) (c.row-item.is ∙ get_or_default c.args.rows.now c.loop-row.row-index item [] c.loop-row-test.true))
    (omega (arith, length-row c.args.words item, c.requires.small))
    n.upper n.leaf n.spill c.build_root-root.result c.build_root-root.ensures c.push.new.self c.in_ok-push.ensures

pub returns : goal.returns
returns g c =
    let e : c.loop-row.row-index ≡ length c.args.rows.now =
    omega (arith, c.loop-row.auto.row-index-end, c.loop-row-test.false) in
    let T : ℕ → Type 0 =
    λ i. AreRowsBuilt g.L.LeafForm.kind (rows_map c.args.words c.args.rows.now) c.args.upper.now c.args.leaf.now c.args.spill.now
    c.loop-row.upper c.loop-row.leaf c.loop-row.spill c.loop-row.roots i in
    rows-built g.L.LeafForm.kind g.met.L.LeafForm.trie c.args.words c.requires.small (rows_map c.args.words c.args.rows.now) (λ d.
    length-row c.args.words (get_or c.args.rows.now d [])) c.args.upper.now c.args.leaf.now c.args.spill.now
    c.loop-row.upper c.loop-row.leaf c.loop-row.spill c.loop-row.roots (length c.args.rows.now) c.requires.room
    (subst T e c.loop-row.invariant)
