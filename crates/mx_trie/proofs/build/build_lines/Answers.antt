use Rattle.std.proofs.Common.{[], IsSome, refl, sym, subst, arith}
use Rattle.mx_trie.proofs.BuiltBlocks.{lines-begun, lines-built-more, taken-left}
use Rattle.mx_trie.proofs.build.build_lines.Goals as goal

pub loop-line-init : goal.loop-line-init
loop-line-init g c =
    search (
      arith,
      lines-begun,
      g.L.LeafForm.kind,
      g.met.L.LeafForm.trie,
      g.V.View.map,
      c.args.page,
      c.args.leaf.now,
      c.args.spill.now,
      c.take.new.self,
      c.in-Some.frame,
    )

pub build_line-entry-requires-clause-room : goal.build_line-entry-requires-clause-room
build_line-entry-requires-clause-room g c =
    search (
      arith,
      taken-left,
      c.args.spill.now,
      c.loop-line.spill,
      c.loop-line.line,
      g.L.LeafForm.kind,
      g.V.View.map,
      c.args.page,
      c.loop-line.invariant.spill_taken,
    )

pub set-requires : goal.set-requires
set-requires g c =
    (omega arith, ((c.loop-line.invariant.built []).self 1 c.in-Some.frame (refl, refl), omega (arith, c.loop-line-test.true)))

pub loop-line-preserved : goal.loop-line-preserved
loop-line-preserved g c =
    let e = c.set.ensures in
    lines-built-more g.L.LeafForm.kind g.met.L.LeafForm.trie (g.V.View.map c.args.view.now) c.args.page c.args.leaf.now c.args.spill.now
    c.loop-line.leaf c.loop-line.spill
    c.set.new.self c.build_line-entry.new.spill c.in-Some.frame c.loop-line.line c.build_line-entry.result c.loop-line.invariant
    c.build_line-entry.ensures
    (record {
      taken = subst (λ o. IsSome o) (sym e.frame) refl;
      here = e.here;
      others = e.others;
      elsewhere = e.elsewhere;
      free = e.free;
      total = e.total;
    })
