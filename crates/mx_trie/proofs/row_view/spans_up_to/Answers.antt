use Rattle.std.proofs.Common.{◌≡◌, ℕ, ◌+◌, ◌-◌, ◌/◌, ap, arith}
use Rattle.mx_table.specs.Rows.{span_at}
use Rattle.mx_table.proofs.RowLaws.{got}
use Rattle.mx_table.specs.Tables.{no_span}
use Rattle.mx_words.specs.declared.perm.Span.{Span}
use Rattle.mx_trie.proofs.RowSpans.{row-firsts}
use Rattle.mx_trie.proofs.row_view.spans_up_to.Goals as goal

pub loop-low-preserved-then-get-word : goal.loop-low-preserved-then-get-word
loop-low-preserved-then-get-word c =
    let i = c.loop-low.invariant in
    let middle : ℕ = c.loop-low.low + (c.loop-low.high - c.loop-low.low) / 2 in
    let is : c.get.result.first ≡ (span_at c.args.row.now middle).first =
    ap (λ (s : Span). s.first) (got c.args.row.now middle c.get.result no_span c.get.ensures) in
    record {
      order = omega (arith, c.loop-low-test.true);
      within = i.within;
      begun = λ k lt. omega (
        arith,
        row-firsts c.requires.0 c.args.row.now c.requires.1 k middle (omega arith)
            (omega (arith, i.within, c.loop-low-test.true)),
        is,
        c.if-get-word.true,
      );
      later = i.later;
    }

pub loop-low-preserved : goal.loop-low-preserved
loop-low-preserved c =
    let i = c.loop-low.invariant in
    let middle : ℕ = c.loop-low.low + (c.loop-low.high - c.loop-low.low) / 2 in
    let is : c.get.result.first ≡ (span_at c.args.row.now middle).first =
    ap (λ (s : Span). s.first) (got c.args.row.now middle c.get.result no_span c.get.ensures) in
    record {
      order = omega arith;
      within = omega (arith, i.within, c.loop-low-test.true);
      begun = i.begun;
      later = λ k le lt. omega (arith, row-firsts c.requires.0 c.args.row.now c.requires.1 middle k le lt, is, c.if-get-word.false);
    }
