use Rattle.std.proofs.Common.{◌+◌, sym, ap, ◌∙◌, arith}
use Rattle.mx_words.proofs.CountingLaws.{count_below-zero, count_below_yes, count_below_no}
use Rattle.mx_words.proofs.BlockLaws.{crowded_lines-count}
use Rattle.mx_plain.proofs.BlockTests.{crowded_at}
use Rattle.mx_plain.proofs.blocks.crowded_lines.Goals as goal
use Rattle.mx_plain.proofs.blocks.crowded_lines.Goals.{then-is_crowded, else-is_crowded}

pub loop-line-init : goal.loop-line-init
loop-line-init g c = (sym (count_below-zero (crowded_at (g.M.WordMap.list c.args.map.now))), omega arith)

pub loop-line-preserved : goal.loop-line-preserved
loop-line-preserved g c =
    let m = g.M.WordMap.list c.args.map.now in
    elim c.if-is_crowded.branch [
      | then-is_crowded w ↦ (
        w.count-is ∙ ap (λ n. n + 1) c.loop-line.invariant.0
            ∙ sym (count_below_yes c.loop-line.line (crowded_at m) (sym c.is_crowded.ensures ∙ w.if-is_crowded.true)),
        omega arith,
      )
      | else-is_crowded w ↦ (
        w.count-is ∙ c.loop-line.invariant.0 ∙ sym (count_below_no c.loop-line.line (crowded_at m) (sym c.is_crowded.ensures
            ∙ w.if-is_crowded.false)),
        omega arith,
      )
    ]

pub returns-clause-count : goal.returns-clause-count
returns-clause-count g c =
    let m = g.M.WordMap.list c.args.map.now in
    c.loop-line.invariant.0 ∙ sym (crowded_lines-count m c.loop-line.line (omega arith))
