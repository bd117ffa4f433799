-- The runs of the maps of a row's first spans.
use Rattle.std.proofs.Common.{◌≡◌, ℕ, ◌+◌, ◌-◌, ◌<◌, ◌≤◌, false, not, List, length, sym, ◌∙◌, ap, arith, inl, inr}
use Rattle.std.proofs.Common.{map as list_map}
use Rattle.std.proofs.lemmas.Bool.{cases_lt, cases_eq}
use Rattle.mx_words.specs.declared.perm.Perm.TheVariants as P
use Rattle.mx_words.specs.declared.perm.Span.{Span}
use Rattle.mx_words.specs.Rights.{same, perm_at}
use Rattle.mx_words.specs.Counting.{count_below}
use Rattle.mx_words.specs.Runs.{runs}
use Rattle.mx_words.specs.Starts.{is_start}
use Rattle.mx_words.proofs.CountingLaws.{count_below_agree, count_below_still, count_below-more, count_below-mono, bit-le}
use Rattle.mx_words.proofs.OverlayLaws.{length-map_of}
use Rattle.mx_words.proofs.RunLaws.{runs-count, same_refl}
use Rattle.mx_words.proofs.MapLaws.{start_step}
use Rattle.mx_table.specs.Tables.{granted, row_map, IsRow}
use Rattle.mx_table.specs.Rows.{end_at, first_spans}
use Rattle.mx_table.proofs.RowLaws.{ends_within, tail_none, alike_before, length-first}

module _ (words : ℕ) (row : List Span) (is : IsRow words row) where
  -- the first spans have at most one run more than all
  starts_alike : (n i : ℕ) → n ≤ length row → i < end_at row n → is_start (first_spans words row n) i ≡ is_start (row_map words row) i
  starts_alike n i le before = elim (cases_eq i 0) [
    | inl e ↦ (ap (is_start (first_spans words row n)) e ∙ sym (ap (is_start (row_map words row)) e))
    | inr ne ↦ (let here = alike_before words row is n i le before in
        let back = alike_before words row is n (i - 1) le (omega arith) in
        start_step (first_spans words row n) i (omega arith)
        ∙ ap (λ p. not (same p (perm_at (first_spans words row n) i))) (sym back)
        ∙ ap (λ p. not (same (perm_at (row_map words row) (i - 1)) p)) (sym here)
        ∙ sym (start_step (row_map words row) i (omega arith)))
  ]

  pub no_start_behind : (n i : ℕ) → n ≤ length row → end_at row n < i → is_start (first_spans words row n) i ≡ false
  no_start_behind n i le from =
      start_step (first_spans words row n) i (omega arith)
      ∙ ap (λ p. not (same p (perm_at (first_spans words row n) i))) (tail_none words row is n (i - 1) le (omega arith))
      ∙ ap (λ p. not (same P.None p)) (tail_none words row is n i le (omega arith)) ∙ ap not (same_refl P.None)

  pub runs_first : (n : ℕ) → n ≤ length row → runs (first_spans words row n) ≤ runs (row_map words row) + 1
  runs_first n le =
      let e = end_at row n in
      let within = ends_within words row is n le in
      let m = first_spans words row n in
      let all = row_map words row in
      let count_m : runs m ≡ count_below words (is_start m) = runs-count m
      ∙ ap (λ x. count_below x (is_start m)) (length-first words row is n) in
      let count_all : runs all ≡ count_below words (is_start all) = runs-count all
      ∙ ap (λ x. count_below x (is_start all)) (length-map_of (list_map granted row) words) in
      let before : count_below e (is_start m) ≡ count_below e (is_start all) =
      count_below_agree e (is_start m) (is_start all) (λ i lt. starts_alike n i le lt) in
      let up = count_below-mono e words (is_start all) within in
      let most : count_below words (is_start m) ≤ count_below e (is_start m) + 1 = elim (cases_lt e words) [
        | inl lt ↦ (let still = count_below_still (e + 1) words (is_start m) (omega arith) (λ i from below.
            no_start_behind n i le (omega arith)) in
            omega (arith, still, count_below-more e (is_start m), bit-le (is_start m e)))
        | inr ge ↦ (let whole : e ≡ words = omega arith in let c : count_below e (is_start m) ≡ count_below words (is_start m) =
            ap (λ x. count_below x (is_start m)) whole in omega (arith, c))
      ] in
      omega (arith, count_m, count_all, before, up, most)
