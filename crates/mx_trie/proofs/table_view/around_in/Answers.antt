use Rattle.std.proofs.Common.{arith}
use Rattle.mx_trie.specs.Read.{read_map}
use Rattle.mx_trie.proofs.TableSpans.{region-round, page-round}
use Rattle.mx_trie.proofs.WalkWords.{is-closed, way-few, way-region, way-page, way-line, way-some}
use Rattle.mx_trie.proofs.table_view.around_in.Goals as goal

pub returns-then-in_root-ne0 : goal.returns-then-in_root-ne0
returns-then-in_root-ne0 g c = λ words read.
    let kind = g.L.LeafForm.kind in let upper = c.args.upper.now in let leaf = c.args.leaf.now in
    let spill = c.args.spill.now in
    let a = c.root_entry-in_root in
    let s = c.part_of in
    region-round kind g.met.L.LeafForm.trie upper leaf spill (read_map kind upper leaf spill words c.args.root)
    (way-few kind upper leaf spill words c.args.root read c.args.word c.requires.word) c.args.word c.requires.word
    a.result c.alike_in.result s.result (way-region kind upper leaf spill words c.args.root read c.args.word c.requires.word a.result
    a.ensures)
    (is-closed a.result c.if-in_root-ne0.true) c.alike_in.ensures s.ensures.first s.ensures.count s.ensures.perm

pub returns-then-in_mid-ne0 : goal.returns-then-in_mid-ne0
returns-then-in_mid-ne0 g c = λ words read.
    let kind = g.L.LeafForm.kind in let upper = c.args.upper.now in let leaf = c.args.leaf.now in
    let spill = c.args.spill.now in
    let a = c.root_entry-in_root in let b = c.get-in_mid in
    let s = c.part_of-then-in_mid-ne0 in
    page-round kind g.met.L.LeafForm.trie upper leaf spill (read_map kind upper leaf spill words c.args.root)
    (way-few kind upper leaf spill words c.args.root read c.args.word c.requires.word) c.args.word c.requires.word
    b.result c.alike_in-then-in_mid-ne0.result s.result
    (way-page kind upper leaf spill words c.args.root read c.args.word c.requires.word a.result a.ensures c.if-in_root-ne0.false b.result
    b.ensures)
    (is-closed b.result c.if-in_mid-ne0.true) c.alike_in-then-in_mid-ne0.ensures s.ensures.first s.ensures.count s.ensures.perm

pub around_line-requires-clause-stands : goal.around_line-requires-clause-stands
around_line-requires-clause-stands g c =
    search (
      arith,
      way-some,
      c.requires.read.1,
      c.requires.word,
      c.root_entry-in_root.ensures,
      c.if-in_root-ne0.false,
      c.get-in_mid.ensures,
      c.if-in_mid-ne0.false,
    )

pub returns : goal.returns
returns g c = λ words read.
    c.around_line.ensures _ (way-few g.L.LeafForm.kind c.args.upper.now c.args.leaf.now c.args.spill.now words c.args.root read c.args.word
    c.requires.word)
    (way-line g.L.LeafForm.kind c.args.upper.now c.args.leaf.now c.args.spill.now words c.args.root read c.args.word c.requires.word
    c.root_entry-in_root.result c.root_entry-in_root.ensures c.if-in_root-ne0.false c.get-in_mid.result c.get-in_mid.ensures
    c.if-in_mid-ne0.false c.get-in_leaf.result c.get-in_leaf.ensures)
