use Rattle.std.proofs.Common.{◌≡◌, ℕ, ◌+◌, ◌*◌, inl, inr, sym, ap, ◌∙◌, subst, arith}
use Rattle.mx_words.specs.Rights.{perm_at}
use Rattle.mx_words.proofs.CountingLaws.{cases_below}
use Rattle.mx_pool.specs.Frames.{word_at}
use Rattle.mx_trie.specs.Shown.{IsLine}
use Rattle.mx_trie.proofs.EvenLines.{eighth-first, eighth-other, eighth-all}
use Rattle.mx_trie.proofs.even.eighth_perm.Goals as goal

pub returns-in_err-perm : goal.returns-in_err-perm
returns-in_err-perm g c =
    search (
      arith,
      g.L.LeafForm.kind,
      c.args.page,
      c.get.result,
      c.in_err-perm.was,
      c.line_perm.ensures,
      c.args.part,
      eighth-first,
      c.requires.part,
    )

pub loop-k-init : goal.loop-k-init
loop-k-init g c = (
  omega arith,
  λ spill m few lines j lt i inside.
      let line : IsLine g.L.LeafForm.kind spill m (c.args.page * 64 + 8 * c.args.part) c.get.result =
      subst (λ (w : ℕ). IsLine g.L.LeafForm.kind spill m (c.args.page * 64 + 8 * c.args.part) w) (sym c.get.ensures)
      (lines (8 * c.args.part) (omega arith)) in
      ap (perm_at m) (omega arith) ∙ (c.line_perm.ensures spill m few line).alike c.in_ok-perm.perm c.in_ok-perm.was i inside,
)

pub returns-then-not-is_line_of : goal.returns-then-not-is_line_of
returns-then-not-is_line_of g c = λ spill m few lines.
    let at : c.args.page * 64 + (8 * c.args.part + c.loop-k.k) ≡ c.args.page * 64 + 8 * c.args.part + c.loop-k.k =
    omega arith in
    let line : IsLine g.L.LeafForm.kind spill m (c.args.page * 64 + 8 * c.args.part + c.loop-k.k) c.get-in-loop-k.result =
    subst (λ (w : ℕ). IsLine g.L.LeafForm.kind spill m (c.args.page * 64 + 8 * c.args.part + c.loop-k.k) w) (sym c.get-in-loop-k.ensures)
    (subst (λ (z : ℕ). IsLine g.L.LeafForm.kind spill m z (word_at c.args.leaf.now c.args.frame (8 * c.args.part + c.loop-k.k))) at
    (lines (8 * c.args.part + c.loop-k.k) (omega arith))) in
    let begin : (c.args.page * 64 + 8 * c.args.part) * 16 + 0 ≡ (c.args.page * 64 + 8 * c.args.part + 0) * 16 + 0 =
    omega arith in
    eighth-other m c.args.page c.args.part c.requires.part c.in_ok-perm.perm c.loop-k.k c.loop-k-test.true
    (ap (perm_at m) begin ∙ c.loop-k.invariant.1 spill m few lines 0 (let h = c.loop-k.invariant.0 in omega arith) 0 (omega arith))
    (λ alike. c.is_line_of.ensures.no spill m few line c.if-not-is_line_of.true alike)

pub loop-k-preserved : goal.loop-k-preserved
loop-k-preserved g c = (
  omega arith,
  λ spill m few lines j lt i inside.
      let below = c.loop-k-test.true in
      let at : c.args.page * 64 + (8 * c.args.part + c.loop-k.k) ≡ c.args.page * 64 + 8 * c.args.part + c.loop-k.k =
      omega arith in
      let line : IsLine g.L.LeafForm.kind spill m (c.args.page * 64 + 8 * c.args.part + c.loop-k.k) c.get-in-loop-k.result =
      subst (λ (w : ℕ). IsLine g.L.LeafForm.kind spill m (c.args.page * 64 + 8 * c.args.part + c.loop-k.k) w) (sym c.get-in-loop-k.ensures)
      (subst (λ (z : ℕ). IsLine g.L.LeafForm.kind spill m z (word_at c.args.leaf.now c.args.frame (8 * c.args.part + c.loop-k.k))) at
      (lines (8 * c.args.part + c.loop-k.k) (omega arith))) in
      elim (cases_below j c.loop-k.k (omega arith)) [
        | inl h ↦ c.loop-k.invariant.1 spill m few lines j h i inside
        | inr h ↦ ap (λ n. perm_at m ((c.args.page * 64 + 8 * c.args.part + n) * 16 + i)) h
            ∙ c.is_line_of.ensures.yes spill m few line c.if-not-is_line_of.false i inside
      ],
)

pub returns : goal.returns
returns g c = λ spill m few lines.
    eighth-all m c.args.page c.args.part c.requires.part c.in_ok-perm.perm
    (λ j below i inside. c.loop-k.invariant.1 spill m few lines j (omega arith) i inside)
