use Rattle.std.proofs.Common.{inl, inr, sym, subst}
use Rattle.mx_words.specs.declared.perm.Span.{Span}
use Rattle.mx_trie.specs.Read.{read_map}
use Rattle.mx_trie.specs.Views.{IsRound}
use Rattle.mx_trie.proofs.TableSpans.{wide-pages, wide-lines}
use Rattle.mx_trie.proofs.WalkWords.{is-open, is-closed, way-few, way-region, way-page}
use Rattle.mx_trie.proofs.table_view.far_in.Goals as goal

pub wide_pages-requires-clause-whole : goal.wide_pages-requires-clause-whole
wide_pages-requires-clause-whole g c = (c.around_in-near.ensures c.requires.read.0 c.requires.read.1).whole

pub wide_lines-requires-clause-whole : goal.wide_lines-requires-clause-whole
wide_lines-requires-clause-whole g c = (c.around_in-near.ensures c.requires.read.0 c.requires.read.1).whole

pub returns-then-in_mid-ne0 : goal.returns-then-in_mid-ne0
returns-then-in_mid-ne0 g c = λ words read.
    let kind = g.L.LeafForm.kind in let upper = c.args.upper.now in let leaf = c.args.leaf.now in
    let spill = c.args.spill.now in
    let a = c.root_entry-in_root in let b = c.get-in_mid in
    let round = c.around_in-near.ensures words read in
    elim c.wide_pages.ensures [
      | inl h ↦ subst (λ (s : Span). IsRound (read_map kind upper leaf spill words c.args.root) c.args.word s) (sym h) round
      | inr w ↦ wide-pages kind g.met.L.LeafForm.trie upper leaf spill (read_map kind upper leaf spill words c.args.root)
          (way-few kind upper leaf spill words c.args.root read c.args.word c.requires.word) c.args.word c.requires.word
          _ c.wide_pages.result round a.result b.result (way-region kind upper leaf spill words c.args.root read c.args.word c.requires.word
          a.result a.ensures)
          (is-open a.result c.if-in_root-ne0.false) b.ensures (is-closed b.result c.if-in_mid-ne0.true) w
    ]

pub returns : goal.returns
returns g c = λ words read.
    let kind = g.L.LeafForm.kind in let upper = c.args.upper.now in let leaf = c.args.leaf.now in
    let spill = c.args.spill.now in
    let a = c.root_entry-in_root in let b = c.get-in_mid in
    let round = c.around_in-near.ensures words read in
    elim c.wide_lines.ensures [
      | inl h ↦ subst (λ (s : Span). IsRound (read_map kind upper leaf spill words c.args.root) c.args.word s) (sym h) round
      | inr w ↦ wide-lines kind g.met.L.LeafForm.trie upper leaf spill (read_map kind upper leaf spill words c.args.root)
          (way-few kind upper leaf spill words c.args.root read c.args.word c.requires.word) c.args.word c.requires.word
          _ c.wide_lines.result round b.result (way-page kind upper leaf spill words c.args.root read c.args.word c.requires.word a.result
          a.ensures c.if-in_root-ne0.false b.result b.ensures)
          (is-open b.result c.if-in_mid-ne0.false) w
    ]
