use Rattle.std.proofs.Common.{◌+◌, ◌*◌, IsSome, refl, sym, subst, arith}
use Rattle.mx_words.specs.Blocks.{is_broken}
use Rattle.mx_words.specs.Counting.{bit}
use Rattle.mx_words.specs.Runs.{page_words}
use Rattle.mx_trie.specs.Built.{page_crowd}
use Rattle.mx_trie.proofs.BuiltBlocks.{pages-begun, pages-built-more, taken-left}
use Rattle.mx_trie.proofs.build.build_pages.Goals as goal

pub loop-page-init : goal.loop-page-init
loop-page-init g c =
    let e = c.in-Some.ensures in
    pages-begun g.L.LeafForm.kind g.met.L.LeafForm.trie (g.V.View.map c.args.view.now) c.args.region c.args.upper.now c.args.leaf.now
    c.args.spill.now c.take.new.self c.in-Some.frame
    e.was_free (subst (λ o. IsSome o) (sym e.here) refl) e.elsewhere (record { count = e.fewer; total = e.total })

pub build_page-entry-requires-clause-leaf_room : goal.build_page-entry-requires-clause-leaf_room
build_page-entry-requires-clause-leaf_room g c =
    taken-left c.args.leaf.now c.loop-page.leaf c.loop-page.page 1024 (λ i.
    bit (is_broken page_words (g.V.View.map c.args.view.now) (c.args.region * 1024 + i)))
    c.loop-page.invariant.leaf_taken (omega (arith, c.loop-page-test.true)) c.requires.leaf_room

pub build_page-entry-requires-clause-spill_room : goal.build_page-entry-requires-clause-spill_room
build_page-entry-requires-clause-spill_room g c =
    taken-left c.args.spill.now c.loop-page.spill c.loop-page.page 1024 (λ i.
    page_crowd g.L.LeafForm.kind (g.V.View.map c.args.view.now) (c.args.region * 1024 + i))
    c.loop-page.invariant.spill_taken (omega (arith, c.loop-page-test.true)) c.requires.spill_room

pub set-requires : goal.set-requires
set-requires g c =
    (omega arith, (c.loop-page.invariant.built.self 0 c.in-Some.frame (refl, refl), omega (arith, c.loop-page-test.true)))

pub loop-page-preserved : goal.loop-page-preserved
loop-page-preserved g c =
    let e = c.set.ensures in
    pages-built-more g.L.LeafForm.kind g.met.L.LeafForm.trie (g.V.View.map c.args.view.now) c.args.region c.args.upper.now c.args.leaf.now
    c.args.spill.now
    c.loop-page.upper c.loop-page.leaf c.loop-page.spill c.set.new.self c.build_page-entry.new.leaf c.build_page-entry.new.spill
    c.in-Some.frame c.loop-page.page c.build_page-entry.result
    c.loop-page.invariant c.build_page-entry.ensures
    (record {
      taken = subst (λ o. IsSome o) (sym e.frame) refl;
      here = e.here;
      others = e.others;
      elsewhere = e.elsewhere;
      free = e.free;
      total = e.total;
    })
