use Rattle.std.proofs.Common.{sym, arith}
use Rattle.std.proofs.Math.Bool.{not-not}
use Rattle.mx_words.specs.Blocks.{is_broken}
use Rattle.mx_words.specs.Counting.{bit}
use Rattle.mx_words.specs.Runs.{region_words}
use Rattle.mx_words.proofs.CountingLaws.{bit-le, sum_below-zero}
use Rattle.mx_trie.proofs.Counted.{byte-bit}
use Rattle.mx_trie.proofs.ShownCounts.{sum-next}
use Rattle.mx_trie.proofs.counts.regions_broken.Goals as goal

pub loop-region-init : goal.loop-region-init
loop-region-init g c =
    (sym (sum_below-zero (λ x. bit (is_broken region_words (g.V.View.map c.args.view.now) x))), omega arith)

pub loop-region-preserved : goal.loop-region-preserved
loop-region-preserved g c =
    search (
      arith,
      byte-bit,
      sum-next,
      c.loop-region.region,
      c.loop-region.count,
      c.from-count.result,
      g.V.View.map,
      c.loop-region.invariant.0,
      not-not,
      bit-le,
    )
