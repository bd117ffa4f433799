use Rattle.std.proofs.Common.{◌+◌, ap, ◌∙◌, arith}
use Rattle.mx_words.specs.Runs.{page_words, region_words}
use Rattle.mx_words.proofs.CountingLaws.{sum_below-zero}
use Rattle.mx_trie.proofs.ShownCounts.{sum-next, sum-ended, blocks-broken, pages-crowded}
use Rattle.mx_trie.proofs.counts.need_of.Goals as goal

pub loop-page-init : goal.loop-page-init
loop-page-init g c = search (arith, sum_below-zero, g.V.View.map, g.L.LeafForm.kind)

pub loop-page-preserved : goal.loop-page-preserved
loop-page-preserved g c =
    search (
      arith,
      sum-next,
      c.loop-page.page,
      c.loop-page.leaf,
      c.page_need-need.result.leaf,
      g.V.View.map,
      c.loop-page.spill,
      c.page_need-need.result.spill,
      g.L.LeafForm.kind,
    )

pub returns-clause-upper : goal.returns-clause-upper
returns-clause-upper g c =
    ap (λ n. 1 + n) (c.regions_broken-upper.ensures.count ∙ blocks-broken region_words (g.V.View.map c.args.view.now) c.div_ceil.result
    (omega arith) (omega (arith, c.requires.words, c.div_ceil.ensures)))

pub returns-clause-leaf : goal.returns-clause-leaf
returns-clause-leaf g c =
    sum-ended c.loop-page.page c.div_ceil-page-end.result _ _ c.loop-page.invariant.leaf (omega (arith, c.loop-page.auto.page-end))
    (omega (arith, c.loop-page-test.false))
    ∙ blocks-broken page_words (g.V.View.map c.args.view.now) c.div_ceil-page-end.result (omega arith)
    (omega (arith, c.requires.words, c.div_ceil-page-end.ensures))

pub returns-clause-spill : goal.returns-clause-spill
returns-clause-spill g c =
    search (
      arith,
      sum-ended,
      c.loop-page.page,
      c.div_ceil-page-end.result,
      c.loop-page.invariant.spill,
      pages-crowded,
      g.L.LeafForm.kind,
      g.V.View.map,
    )
