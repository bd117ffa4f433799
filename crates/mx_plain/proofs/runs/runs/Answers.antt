use Rattle.std.proofs.Common.{◌≡◌, ◌+◌, length, sym, ap, ◌∙◌, arith}
use Rattle.mx_words.specs.Counting.{count_below}
use Rattle.mx_words.specs.Starts.{is_start}
use Rattle.mx_words.proofs.CountingLaws.{count_below-zero, count_below_yes, count_below_no}
use Rattle.mx_words.proofs.RunLaws.{runs-count}
use Rattle.mx_plain.proofs.runs.runs.Goals as goal
use Rattle.mx_plain.proofs.runs.runs.Goals.{then-begins, else-begins}

pub loop-word-init : goal.loop-word-init
loop-word-init g c = (sym (count_below-zero (is_start (g.M.WordMap.list c.args.map.now))), omega arith)

pub loop-word-preserved : goal.loop-word-preserved
loop-word-preserved g c =
    let m = g.M.WordMap.list c.args.map.now in
    elim c.if-begins.branch [
      | then-begins w ↦ (
        w.count-is ∙ ap (λ n. n + 1) c.loop-word.invariant.0
            ∙ sym (count_below_yes c.loop-word.word (is_start m) (sym c.begins.ensures ∙ w.if-begins.true)),
        omega arith,
      )
      | else-begins w ↦ (
        w.count-is ∙ c.loop-word.invariant.0 ∙ sym (count_below_no c.loop-word.word (is_start m) (sym c.begins.ensures
            ∙ w.if-begins.false)),
        omega arith,
      )
    ]

pub returns-clause-count : goal.returns-clause-count
returns-clause-count g c =
    let m = g.M.WordMap.list c.args.map.now in
    let all : c.loop-word.word ≡ length m = omega arith in
    c.loop-word.invariant.0 ∙ ap (λ n. count_below n (is_start m)) all ∙ sym (runs-count m)
