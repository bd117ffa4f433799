use Rattle.std.proofs.Common.{◌<◌, ◌≤◌, length, sym, ap, ◌∙◌, arith}
use Rattle.mx_words.specs.Rights.{same}
use Rattle.mx_plain.proofs.RunTests.{same_is, alike_from_is}
use Rattle.mx_plain.proofs.runs.alike_from.Goals as goal
use Rattle.mx_plain.proofs.runs.alike_from.Goals.{then-loop-word-test+else-eq, else-loop-word-test}

pub returns-clause-count : goal.returns-clause-count
returns-clause-count c =
    let most : c.args.first < c.loop-word.word → c.loop-word.word ≤ c.args.high = λ far. let h = c.loop-word.invariant.1 far in
    omega arith in
    let inside : c.args.first < c.loop-word.word → c.loop-word.word ≤ length c.args.map.now = λ far. let h = c.loop-word.invariant.1 far in
    omega arith in
    elim c.loop-word-test.branch [
      | then-loop-word-test+else-eq w ↦
          alike_from_is c.args.map.now c.args.perm c.args.first c.args.high c.loop-word.word c.loop-word.invariant.0 most inside
          c.loop-word.invariant.2
          (λ below there. ap (same c.args.perm) (sym w.at.ensures) ∙ sym (same_is _ _) ∙ sym w.if-eq.ensures)
      | else-loop-word-test w ↦
          alike_from_is c.args.map.now c.args.perm c.args.first c.args.high c.loop-word.word c.loop-word.invariant.0 most inside
          c.loop-word.invariant.2
          (λ below there. absurd (omega arith))
    ]
