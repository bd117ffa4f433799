use Rattle.std.proofs.Common.{IsSome, refl, sym, subst, arith}
use Rattle.mx_words.specs.Blocks.{is_broken}
use Rattle.mx_words.specs.Counting.{bit}
use Rattle.mx_words.specs.Runs.{region_words}
use Rattle.mx_trie.specs.Built.{region_broken, region_crowd}
use Rattle.mx_trie.proofs.BuiltBlocks.{regions-begun, regions-built-more, taken-left, one-more-left}
use Rattle.mx_trie.proofs.build.build_root.Goals as goal

pub loop-region-init : goal.loop-region-init
loop-region-init g c =
    let e = c.in-Some.ensures in
    regions-begun g.L.LeafForm.kind g.met.L.LeafForm.trie (g.V.View.map c.args.view.now) c.args.upper.now c.args.leaf.now c.args.spill.now
    c.take.new.self c.in-Some.frame
    e.was_free (subst (λ o. IsSome o) (sym e.here) refl) e.elsewhere (record { count = e.fewer; total = e.total })

pub build_region-entry-requires-clause-upper_room : goal.build_region-entry-requires-clause-upper_room
build_region-entry-requires-clause-upper_room g c =
    one-more-left c.args.upper.now c.loop-region.upper c.loop-region.region 16 (λ x.
    bit (is_broken region_words (g.V.View.map c.args.view.now) x))
    c.loop-region.invariant.upper_taken (omega (arith, c.loop-region-test.true)) c.requires.upper_room

pub build_region-entry-requires-clause-leaf_room : goal.build_region-entry-requires-clause-leaf_room
build_region-entry-requires-clause-leaf_room g c =
    taken-left c.args.leaf.now c.loop-region.leaf c.loop-region.region 16 (region_broken (g.V.View.map c.args.view.now))
    c.loop-region.invariant.leaf_taken (omega (arith, c.loop-region-test.true)) c.requires.leaf_room

pub build_region-entry-requires-clause-spill_room : goal.build_region-entry-requires-clause-spill_room
build_region-entry-requires-clause-spill_room g c =
    taken-left c.args.spill.now c.loop-region.spill c.loop-region.region 16 (region_crowd g.L.LeafForm.kind (g.V.View.map c.args.view.now))
    c.loop-region.invariant.spill_taken (omega (arith, c.loop-region-test.true)) c.requires.spill_room

pub set_root_entry-requires-clause-root : goal.set_root_entry-requires-clause-root
set_root_entry-requires-clause-root g c =
    let b = c.loop-region.invariant.built in
    subst (λ o. IsSome o) (sym (c.build_region-entry.ensures.built.stays 0 c.in-Some.frame (b.self 0 c.in-Some.frame (refl, refl))))
    (b.self 0 c.in-Some.frame (refl, refl))

pub loop-region-preserved : goal.loop-region-preserved
loop-region-preserved g c =
    let e = c.set_root_entry.ensures in
    let n = c.build_region-entry.new in
    regions-built-more g.L.LeafForm.kind g.met.L.LeafForm.trie (g.V.View.map c.args.view.now) c.args.upper.now c.args.leaf.now
    c.args.spill.now
    c.loop-region.upper c.loop-region.leaf c.loop-region.spill n.upper c.set_root_entry.new.upper n.leaf n.spill c.in-Some.frame
    c.loop-region.region c.build_region-entry.result
    c.loop-region.invariant c.build_region-entry.ensures e.here e.others e.taken e.elsewhere e.free e.total
