use Rattle.std.proofs.Common.{◌+◌, ◌*◌, ◌<◌, IsSome, refl, sym, subst, arith}
use Rattle.mx_pool.specs.Frames.{free_in}
use Rattle.mx_trie.specs.Laying.{cuts}
use Rattle.mx_trie.specs.OnWay.{cuts_left}
use Rattle.mx_trie.proofs.Cuts.{cuts-within, room-left}
use Rattle.mx_trie.proofs.PageLines.{lines-none, lines-more, lines-all, next-line}
use Rattle.mx_trie.proofs.page.change_lines.Goals as goal

pub loop-line-init : goal.loop-line-init
loop-line-init g c = (
  omega (arith, c.max-from.ensures),
  lines-none g.L.LeafForm.kind g.met.L.LeafForm.trie c.args.leaf.now c.args.spill.now c.args.lay.now c.args.beside.now c.args.page
      c.args.frame c.requires.page c.max-from.result c.requires.table
      (omega (arith, c.max-from.ensures))
      (λ k inside lt. omega (arith, c.max-from.ensures, c.near_first.ensures, c.REACH.ensures, g.met.L.LeafForm.reach)),
)

pub change_line-new-requires-clause-stands : goal.change_line-new-requires-clause-stands
change_line-new-requires-clause-stands g c =
    next-line g.L.LeafForm.kind g.met.L.LeafForm.trie c.args.leaf.now c.args.spill.now c.args.lay.now c.args.beside.now c.args.page
    c.args.frame c.requires.page
    c.loop-line.leaf c.loop-line.spill c.loop-line.line c.loop-line.invariant.1 c.loop-line.invariant.0
    (omega (arith, c.loop-line-test.true, c.min-to.ensures))
    c.get-old.result c.get-old.ensures c.requires.stands

pub change_line-new-requires-clause-room : goal.change_line-new-requires-clause-room
change_line-new-requires-clause-room g c =
    let below : c.loop-line.line < c.args.page * 64 + 64 = omega (arith, c.loop-line-test.true, c.min-to.ensures) in
    room-left (free_in c.args.spill.now) (free_in c.loop-line.spill) (cuts 1024 c.args.page c.args.lay.now)
    (cuts_left 16 c.loop-line.line (c.args.page * 1024 + 1024) c.args.lay.now) (cuts 16 c.loop-line.line c.args.lay.now)
    c.loop-line.invariant.1.spill_room c.requires.room (cuts-within 16 c.loop-line.line (c.args.page * 1024 + 1024) c.args.lay.now
    (omega (arith, below, c.loop-line.invariant.0)))

pub loop-line-preserved : goal.loop-line-preserved
loop-line-preserved g c = (
  omega (arith, c.loop-line.invariant.0),
  lines-more g.L.LeafForm.kind g.met.L.LeafForm.trie c.args.leaf.now c.args.spill.now c.loop-line.leaf c.loop-line.spill c.set.new.self
      c.change_line-new.new.spill
      c.args.lay.now c.args.beside.now c.args.page c.args.frame c.loop-line.line c.change_line-new.result c.loop-line.invariant.0
      (omega (arith, c.loop-line-test.true, c.min-to.ensures))
      c.loop-line.invariant.1 c.get-old.result c.get-old.ensures c.change_line-new.ensures
      (record {
        taken = subst (λ o. IsSome o) (sym c.set.ensures.frame) refl;
        here = c.set.ensures.here;
        others = c.set.ensures.others;
        elsewhere = c.set.ensures.elsewhere;
        free = c.set.ensures.free;
        total = c.set.ensures.total;
      }),
)

pub returns : goal.returns
returns g c =
    lines-all g.L.LeafForm.kind g.met.L.LeafForm.trie c.args.leaf.now c.args.spill.now c.args.lay.now c.args.beside.now c.args.page
    c.args.frame c.requires.page
    c.loop-line.leaf c.loop-line.spill c.loop-line.line c.loop-line.invariant.1
    (λ k inside le. omega (arith, c.loop-line-test.false, c.min-to.ensures, c.near_last.ensures, c.REACH.ensures, g.met.L.LeafForm.reach))
