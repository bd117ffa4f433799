use Rattle.std.proofs.Common.{◌+◌, ◌*◌, ◌<◌, List, ℕ, Option, IsSome, refl, sym, subst, arith}
use Rattle.mx_pool.specs.Frames.{free_in}
use Rattle.mx_trie.specs.Laying.{cuts}
use Rattle.mx_trie.specs.OnWay.{cuts_left}
use Rattle.mx_trie.proofs.Cuts.{cuts-within, room-left}
use Rattle.mx_trie.proofs.RegionPages.{pages-none, pages-more, pages-all, next-page, next-table}
use Rattle.mx_trie.proofs.region.change_pages.Goals as goal

pub loop-page-init : goal.loop-page-init
loop-page-init g c = (
  omega (arith, c.max-from.ensures),
  pages-none g.L.LeafForm.kind g.met.L.LeafForm.trie c.args.upper.now c.args.leaf.now c.args.spill.now c.args.lay.now c.args.beside.now
      c.args.region c.args.frame c.requires.region
      c.max-from.result c.requires.table (omega (arith, c.max-from.ensures))
      (λ k inside lt. omega (arith, c.max-from.ensures, c.near_first.ensures, c.REACH.ensures, g.met.L.LeafForm.reach)),
)

pub change_page-new-requires-clause-table : goal.change_page-new-requires-clause-table
change_page-new-requires-clause-table g c =
    next-table g.L.LeafForm.kind g.met.L.LeafForm.trie c.args.upper.now c.args.leaf.now c.args.spill.now c.args.lay.now c.args.beside.now
    c.args.region c.args.frame c.requires.region
    c.loop-page.upper c.loop-page.leaf c.loop-page.spill c.loop-page.page c.loop-page.invariant.1 c.loop-page.invariant.0
    (omega (arith, c.loop-page-test.true, c.min-to.ensures))
    c.get-old.result c.get-old.ensures

pub change_page-new-requires-clause-stands : goal.change_page-new-requires-clause-stands
change_page-new-requires-clause-stands g c =
    next-page g.L.LeafForm.kind g.met.L.LeafForm.trie c.args.upper.now c.args.leaf.now c.args.spill.now c.args.lay.now c.args.beside.now
    c.args.region c.args.frame c.requires.region
    c.loop-page.upper c.loop-page.leaf c.loop-page.spill c.loop-page.page c.loop-page.invariant.1 c.loop-page.invariant.0
    (omega (arith, c.loop-page-test.true, c.min-to.ensures))
    c.get-old.result c.get-old.ensures c.requires.stands

pub change_page-new-requires-clause-leaf_room : goal.change_page-new-requires-clause-leaf_room
change_page-new-requires-clause-leaf_room g c =
    let below : c.loop-page.page < c.args.region * 1024 + 1024 = omega (arith, c.loop-page-test.true, c.min-to.ensures) in
    room-left (free_in c.args.leaf.now) (free_in c.loop-page.leaf) (cuts 1048576 c.args.region c.args.lay.now)
    (cuts_left 1024 c.loop-page.page (c.args.region * 1048576 + 1048576) c.args.lay.now) (cuts 1024 c.loop-page.page c.args.lay.now)
    c.loop-page.invariant.1.leaf_room c.requires.leaf_room (cuts-within 1024 c.loop-page.page (c.args.region * 1048576 + 1048576)
    c.args.lay.now (omega (arith, below)))

pub change_page-new-requires-clause-spill_room : goal.change_page-new-requires-clause-spill_room
change_page-new-requires-clause-spill_room g c =
    let below : c.loop-page.page < c.args.region * 1024 + 1024 = omega (arith, c.loop-page-test.true, c.min-to.ensures) in
    room-left (free_in c.args.spill.now) (free_in c.loop-page.spill) (cuts 1048576 c.args.region c.args.lay.now)
    (cuts_left 1024 c.loop-page.page (c.args.region * 1048576 + 1048576) c.args.lay.now) (cuts 1024 c.loop-page.page c.args.lay.now)
    c.loop-page.invariant.1.spill_room c.requires.spill_room (cuts-within 1024 c.loop-page.page (c.args.region * 1048576 + 1048576)
    c.args.lay.now (omega (arith, below)))

pub loop-page-preserved : goal.loop-page-preserved
loop-page-preserved g c = (
  omega (arith, c.loop-page.invariant.0),
  pages-more g.L.LeafForm.kind g.met.L.LeafForm.trie c.args.upper.now c.args.leaf.now c.args.spill.now c.args.lay.now c.args.beside.now
      c.args.region c.args.frame c.requires.region
      c.loop-page.upper c.loop-page.leaf c.loop-page.spill c.loop-page.page c.loop-page.invariant.1 c.loop-page.invariant.0
      (omega (arith, c.loop-page-test.true, c.min-to.ensures))
      c.get-old.result c.get-old.ensures c.set.new.self c.change_page-new.new.leaf c.change_page-new.new.spill c.change_page-new.result
      c.change_page-new.ensures
      (record {
        taken = subst (λ (o : Option (List ℕ)). IsSome o) (sym c.set.ensures.frame) refl;
        here = c.set.ensures.here;
        others = c.set.ensures.others;
        elsewhere = c.set.ensures.elsewhere;
        free = c.set.ensures.free;
        total = c.set.ensures.total;
      }),
)

pub returns : goal.returns
returns g c =
    pages-all g.L.LeafForm.kind g.met.L.LeafForm.trie c.args.upper.now c.args.leaf.now c.args.spill.now c.args.lay.now c.args.beside.now
    c.args.region c.args.frame c.requires.region
    c.loop-page.upper c.loop-page.leaf c.loop-page.spill c.loop-page.page c.loop-page.invariant.1
    (λ k inside le. omega (arith, c.loop-page-test.false, c.min-to.ensures, c.near_last.ensures, c.REACH.ensures, g.met.L.LeafForm.reach))
