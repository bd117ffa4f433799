use Rattle.std.proofs.Common.{List, [], length, ap, ◌∙◌, arith}
use Rattle.mx_words.specs.declared.perm.Perm.{Perm}
use Rattle.mx_trie.specs.Laying.{laid_by}
use Rattle.mx_trie.specs.After.{map_in, IsNeedMoved}
use Rattle.mx_trie.specs.Shape.{length-read_map}
use Rattle.mx_trie.proofs.NeedOfRange.{range-already, range-moved}
use Rattle.mx_trie.proofs.after.need_laid.Given.{Over}
use Rattle.mx_trie.proofs.after.need_laid.Goals as goal
use Rattle.mx_trie.proofs.after.need_laid.Goals.{After-need_at_edges-after}

pub returns-then-has_perm : goal.returns-then-has_perm
returns-then-has_perm g c =
    range-already g.L.LeafForm.kind (map_in g.L.LeafForm.kind c.args.upper.now c.args.leaf.now c.args.spill.now c.args.root c.args.lay.now)
    _ c.args.lay.now c.args.need
    c.map_of-old.ensures.map (c.has_perm.ensures.yes c.if-has_perm.true)

pub laid_over-new-requires-clause-long : goal.laid_over-new-requires-clause-long
laid_over-new-requires-clause-long g c =
    ap (λ (m : List Perm). length m) c.map_of-old.ensures.map
    ∙ length-read_map g.L.LeafForm.kind c.args.upper.now c.args.leaf.now c.args.spill.now c.args.lay.now.words [] c.args.root

moved : (g : Over) (c : After-need_at_edges-after g) →
    let m = map_in g.L.LeafForm.kind c.args.upper.now c.args.leaf.now c.args.spill.now c.args.root c.args.lay.now in
    IsNeedMoved g.L.LeafForm.kind m (laid_by c.args.lay.now m) c.need_in_range-before.result c.need_at_edges-after.result
moved g c =
    range-moved g.L.LeafForm.kind c.args.upper.now c.args.leaf.now c.args.spill.now c.args.root c.args.lay.now _ _ _ _ c.requires.read
    c.map_of-old.ensures.map c.laid_over-new.ensures.map
    c.need_in_range-before.ensures c.need_at_edges-after.ensures.need

pub need_moved-requires-clause-upper : goal.need_moved-requires-clause-upper
need_moved-requires-clause-upper g c = omega (arith, (moved g c).upper, c.requires.part.upper)

pub need_moved-requires-clause-leaf : goal.need_moved-requires-clause-leaf
need_moved-requires-clause-leaf g c = omega (arith, (moved g c).leaf, c.requires.part.leaf)

pub need_moved-requires-clause-spill : goal.need_moved-requires-clause-spill
need_moved-requires-clause-spill g c = omega (arith, (moved g c).spill, c.requires.part.spill)

pub returns : goal.returns
returns g c =
    let e = c.need_moved.ensures in
    let now =
    range-moved g.L.LeafForm.kind c.args.upper.now c.args.leaf.now c.args.spill.now c.args.root c.args.lay.now _ _ _ _ c.requires.read
    c.map_of-old.ensures.map c.laid_over-new.ensures.map
    c.need_in_range-before.ensures c.need_at_edges-after.ensures.need in
    record { upper = omega (arith, now.upper, e.upper); leaf = omega (arith, now.leaf, e.leaf); spill = omega (arith, now.spill, e.spill) }
