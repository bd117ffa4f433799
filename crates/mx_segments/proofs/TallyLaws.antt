-- A tally with one span more.
use Rattle.std.proofs.Common.{◌≡◌, ℕ, ◌+◌, ◌-◌, ◌<◌, ◌≤◌, min, true, false, cond, not, ◌==◌, ◌&&◌, ◌||◌, nat_lt, List, length, refl, sym}
use Rattle.std.proofs.Common.{◌∙◌, ap, arith, inl, inr}
use Rattle.std.proofs.lemmas.Bool.{cases_lt, cases_eq}
use Rattle.std.proofs.lemmas.Bool.Decides.{nat_tests}
use Rattle.mx_words.specs.declared.perm.Perm.{Perm}
use Rattle.mx_words.specs.declared.perm.Perm.TheVariants as P
use Rattle.mx_words.specs.declared.perm.Span.{Span}
use Rattle.mx_words.specs.Rights.{same, perm_at}
use Rattle.mx_words.specs.Counting.{bit, count_below}
use Rattle.mx_words.specs.Newest.{laid}
use Rattle.mx_words.specs.Changes.{grant_of}
use Rattle.mx_words.specs.Runs.{runs}
use Rattle.mx_words.specs.Starts.{is_start}
use Rattle.mx_words.proofs.CountingLaws.{count_below-zero, count_below_still, count_below_yes, count_below-le}
use Rattle.mx_words.proofs.RunLaws.{runs-count, same_refl}
use Rattle.mx_words.proofs.MapLaws.{start_step}
use Rattle.mx_table.specs.Tables.{IsRow}
use Rattle.mx_table.specs.Rows.{first_spans}
use Rattle.mx_table.proofs.RowLaws.{tail_none, length-first}
use Rattle.mx_segments.specs.declared.plan.Plan.{Plan}
use Rattle.mx_segments.specs.declared.tally.Tally.{Tally}
use Rattle.mx_segments.specs.Plan.{IsPlan, kept}
use Rattle.mx_segments.specs.Tally.{IsTally, counted_before, perm_before}
use Rattle.mx_segments.proofs.ChangeLaws.{in_range, total_is, new_in, new_behind, length-new}

module _ (words : ℕ) (m : List Perm) (len : length m ≡ words) (tally : Tally) (is : IsTally words m tally) (first count : ℕ) (perm : Perm)
    (some : 0 < count) (inside : first + count ≤ words) (behind : tally.end ≤ first) where
  no_start : (i : ℕ) → tally.end < i → is_start m i ≡ false
  no_start i lt =
      start_step m i (omega arith) ∙ ap (λ p. not (same p (perm_at m i))) (is.tail (i - 1) (omega arith))
      ∙ ap (λ p. not (same P.None p)) (is.tail i (omega arith)) ∙ ap not (same_refl P.None)

  runs_are : runs m ≡ count_below words (is_start m)
  runs_are = runs-count m ∙ ap (λ x. count_below x (is_start m)) len

  all_from : (x : ℕ) → tally.end < x → x ≤ words → count_below x (is_start m) ≡ tally.runs
  all_from x lt le = omega (arith, count_below_still x words (is_start m) le (λ i from below. no_start i (omega arith)), runs_are, is.all)

  before_is : counted_before tally first ≡ count_below first (is_start m)
  before_is = elim (cases_lt tally.end first) [
    | inl lt ↦ (let t : nat_lt tally.end first ≡ true = grind (arith, nat_tests) in
        ap (λ b. cond b tally.runs tally.before) t ∙ sym (all_from first lt (omega arith)))
    | inr ge ↦ (let t : nat_lt tally.end first ≡ false = grind (arith, nat_tests) in
        let e : tally.end ≡ first = omega arith in
        ap (λ b. cond b tally.runs tally.before) t ∙ is.before ∙ ap (λ x. count_below x (is_start m)) e)
  ]

  previous_is : 0 < first → perm_before tally first ≡ perm_at m (first - 1)
  previous_is pos = elim (cases_lt tally.end first) [
    | inl lt ↦ (let t : nat_lt tally.end first ≡ true = grind (arith, nat_tests) in
        ap (λ b. cond b P.None tally.last) t ∙ sym (is.tail (first - 1) (omega arith)))
    | inr ge ↦ (let t : nat_lt tally.end first ≡ false = grind (arith, nat_tests) in
        let e : tally.end ≡ first = omega arith in
        ap (λ b. cond b P.None tally.last) t ∙ is.last (omega arith) ∙ ap (λ x. perm_at m (x - 1)) e)
  ]

  starts_are : ((first == 0) || not (same (perm_before tally first) perm)) ≡ ((first == 0) || not (same (perm_at m (first - 1)) perm))
  starts_are = elim (cases_eq first 0) [
    | inl e ↦ (let t : (first == 0) ≡ true = grind (arith, nat_tests) in
        ap (λ b. b || not (same (perm_before tally first) perm)) t ∙ sym (ap (λ b. b || not (same (perm_at m (first - 1)) perm)) t))
    | inr ne ↦ ap (λ p. (first == 0) || not (same p perm)) (previous_is (omega arith))
  ]

  module _ (plan : Plan) (at_before : plan.before ≡ counted_before tally first) (at_behind : plan.behind ≡ tally.runs)
      (at_all : plan.all ≡ tally.runs)
      (at_starts : plan.starts ≡ ((first == 0) || not (same (perm_before tally first) perm)))
      (at_ends : plan.ends ≡ (nat_lt (first + count) words && not (same perm P.None))) (at_next : plan.next ≡ P.None) where
    planned : IsPlan m first count perm plan
    planned = record {
      before = at_before ∙ before_is;
      behind = at_behind ∙ sym (elim (cases_lt (first + count) words) [
        | inl lt ↦ (let e : min (first + count + 1) (length m) ≡ first + count + 1 = omega (arith, len) in
            ap (λ x. count_below x (is_start m)) e ∙ all_from (first + count + 1) (omega arith) (omega arith))
        | inr ge ↦ (let e : min (first + count + 1) (length m) ≡ words = omega (arith, len) in
            ap (λ x. count_below x (is_start m)) e ∙ all_from words (omega arith) (omega arith))
      ]);
      all = at_all ∙ is.all;
      starts = at_starts ∙ starts_are;
      next = at_next ∙ sym (is.tail (first + count) (omega arith));
      ends = at_ends ∙ ap (λ w. nat_lt (first + count) w && not (same perm P.None)) (sym len)
          ∙ ap (λ p. nat_lt (first + count) (length m) && not (same perm p)) (sym at_next);
    }

    pub tally_more : (tally' : Tally) → tally'.end ≡ first + count → tally'.before ≡ plan.before + bit plan.starts → tally'.runs ≡ kept plan
        → tally'.last ≡ perm →
        IsTally words (laid (grant_of first count perm) m) tally'
    tally_more tally' end_is before_is' runs_is last_is =
        let new = laid (grant_of first count perm) m in
        let range = in_range words m len first count perm some inside plan planned (first + count) (omega arith) (omega arith) in
        let whole = total_is words m len first count perm some inside plan planned in
        let count_new : runs new ≡ count_below words (is_start new) =
        runs-count new ∙ ap (λ x. count_below x (is_start new)) (length-new words m len first count perm some inside) in
        record {
          within = omega (arith, end_is);
          tail = λ j from. new_behind words m len first count perm some inside j (omega (arith, end_is))
              ∙ is.tail j (omega (arith, end_is));
          before = before_is' ∙ sym range ∙ ap (λ x. count_below x (is_start new)) (sym end_is);
          all = omega (arith, runs_is, whole, at_all, at_behind);
          few = omega (arith, before_is', runs_is);
          most = omega (arith, runs_is, whole, at_all, at_behind, count_new, count_below-le words (is_start new));
          last = λ pos. last_is ∙ sym (new_in words m len first count perm some inside (tally'.end - 1) (omega (arith, end_is))
              (omega (arith, end_is)));
        }

-- no span yet
module _ (words : ℕ) (row : List Span) (is : IsRow words row) (pos : 1 ≤ words) where
  none_yet : (j : ℕ) → perm_at (first_spans words row 0) j ≡ P.None
  none_yet j = tail_none words row is 0 j (omega arith) (omega arith)

  pub none_started : (i : ℕ) → 0 < i → is_start (first_spans words row 0) i ≡ false
  none_started i lt =
      start_step (first_spans words row 0) i lt ∙ ap (λ p. not (same p (perm_at (first_spans words row 0) i))) (none_yet (i - 1))
      ∙ ap (λ p. not (same P.None p)) (none_yet i) ∙ ap not (same_refl P.None)

  pub one_run : runs (first_spans words row 0) ≡ 1
  one_run =
      let m = first_spans words row 0 in
      let whole : runs m ≡ count_below words (is_start m) = runs-count m
      ∙ ap (λ x. count_below x (is_start m)) (length-first words row is 0) in
      let still = count_below_still 1 words (is_start m) pos (λ i from below. none_started i (omega arith)) in
      let one : count_below (0 + 1) (is_start m) ≡ count_below 0 (is_start m) + 1 = count_below_yes 0 (is_start m) refl in
      omega (arith, whole, still, one, count_below-zero (is_start m))

  pub first_tally : (tally : Tally) → tally.end ≡ 0 → tally.before ≡ 0 → tally.runs ≡ 1 → IsTally words (first_spans words row 0) tally
  first_tally tally end_is before_is runs_is = record {
    within = omega (arith, end_is);
    tail = λ j from. none_yet j;
    before = before_is ∙ sym (count_below-zero (is_start (first_spans words row 0)))
        ∙ ap (λ x. count_below x (is_start (first_spans words row 0))) (sym end_is);
    all = runs_is ∙ sym one_run;
    few = omega (arith, before_is);
    most = omega (arith, runs_is);
    last = λ some. absurd (omega (arith, end_is));
  }
