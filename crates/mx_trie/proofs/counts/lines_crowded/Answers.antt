use Rattle.std.proofs.Common.{◌+◌, ◌*◌, sym, arith}
use Rattle.mx_words.proofs.CountingLaws.{bit-le, sum_below-zero}
use Rattle.mx_trie.specs.Built.{line_crowd}
use Rattle.mx_trie.proofs.Counted.{byte-bit}
use Rattle.mx_trie.proofs.ShownCounts.{sum-next}
use Rattle.mx_trie.proofs.counts.lines_crowded.Goals as goal

pub loop-line-init : goal.loop-line-init
loop-line-init g c =
    (sym (sum_below-zero (λ k. line_crowd g.L.LeafForm.kind (g.V.View.map c.args.view.now) (c.args.page * 64 + k))), omega arith)

pub loop-line-preserved : goal.loop-line-preserved
loop-line-preserved g c =
    search (
      arith,
      byte-bit,
      sum-next,
      c.loop-line.line,
      c.loop-line.count,
      c.from-count.result,
      g.L.LeafForm.kind,
      g.V.View.map,
      c.args.page,
      c.loop-line.invariant.0,
      bit-le,
    )
