use Rattle.std.proofs.Common.{◌≡◌, ◌-◌, ◌%◌, List, length, refl, ◌∙◌, ap, arith}
use Rattle.mx_words.specs.declared.perm.Perm.{Perm}
use Rattle.mx_trie.specs.Codes.{value_code, start_code}
use Rattle.mx_words.proofs.NumberLaws.{number-one_to_one}
use Rattle.mx_trie.proofs.Decoding.{value_code-first}
use Rattle.mx_packed.proofs.CodedRuns.{IsEnd, begun-more, end-at, end-last, run-between}
use Rattle.mx_packed.proofs.mini.run_of.Goals as goal
use Rattle.mx_packed.proofs.mini.run_of.Goals.{After-perm_of, then-next-eq0, else-next-eq0}
use Rattle.mx_packed.proofs.mini.run_of.Goals.{then-loop-starts_left-test+else-starts_left-place, else-loop-starts_left-test}

pub loop-starts_left-init : goal.loop-starts_left-init
loop-starts_left-init c = λ perms whole values starts. record {
  from = omega arith;
  values_left = values;
  starts_left = starts;
  begins =
      λ some. absurd (omega arith);
}

pub loop-starts_left-preserved : goal.loop-starts_left-preserved
loop-starts_left-preserved c = λ perms whole values starts.
    begun-more perms (c.args.word - c.args.line) c.loop-starts_left.first c.loop-starts_left.values_left c.loop-starts_left.starts_left
    whole (omega arith)
    (c.loop-starts_left.invariant perms whole values starts) c.loop-starts_left-test.true c.if-starts_left-place.true

ends : (c : After-perm_of) (perms : List Perm) → length perms ≡ 16 → c.args.values ≡ value_code perms → c.args.starts ≡ start_code 0 perms →
    IsEnd perms (c.args.word - c.args.line) c.loop-starts_left.first c.if-next-eq0.end
ends c perms whole values starts =
    let begun = c.loop-starts_left.invariant perms whole values starts in
    elim c.if-next-eq0.branch [
      | then-next-eq0 w ↦ rw w.end-is (end-last perms (c.args.word - c.args.line) c.loop-starts_left.first c.loop-starts_left.values_left
          c.loop-starts_left.starts_left whole (omega arith) begun w.if-next-eq0.true)
      | else-next-eq0 w ↦ rw w.end-is (end-at perms (c.args.word - c.args.line) c.loop-starts_left.first c.loop-starts_left.values_left
          c.loop-starts_left.starts_left whole (omega arith) begun w.if-next-eq0.false
          (elim c.loop-starts_left-test.branch [
            | then-loop-starts_left-test+else-starts_left-place v ↦ v.if-starts_left-place.false
            | else-loop-starts_left-test v ↦ absurd (w.if-next-eq0.false v.loop-starts_left-test.false)
          ]))
    ]

pub returns : goal.returns
returns c = λ perms whole values starts.
    let begun = c.loop-starts_left.invariant perms whole values starts in
    run-between perms c.args.line (c.args.word - c.args.line) c.loop-starts_left.first c.if-next-eq0.end _ whole (omega arith) begun.from
    begun.begins (ends c perms whole values starts)
    refl refl
    (number-one_to_one _ _ (c.perm_of.ensures ∙ ap (λ n. n % 4) begun.values_left
    ∙ value_code-first perms c.loop-starts_left.first (omega (arith, begun.from))))
