-- The spans of a row: their order, and the maps of the first of them.
use Rattle.std.proofs.Common.{◌≡◌, ℕ, zero, suc, ◌+◌, ◌-◌, ◌<◌, ◌≤◌, List, [], ◌∷◌, ◌++◌, length, get_or, slice_get, Some, take, drop, fold}
use Rattle.std.proofs.Common.{refl, sym, ◌∙◌, ap, subst, arith, inl, inr, ◌⊎◌, take-append-drop, length-take, length-drop, get_or-take}
use Rattle.std.proofs.Common.{get_or-drop}
use Rattle.std.proofs.Common.{map as list_map}
use Rattle.std.proofs.lemmas.Bool.{cases_lt}
use Rattle.std.proofs.lemmas.List.{map-append, take_more, take_all, get_or_past}
use Rattle.std.proofs.lemmas.List.Sums.{fold-append}
use Rattle.mx_words.specs.declared.perm.Perm.{Perm}
use Rattle.mx_words.specs.declared.perm.Perm.TheVariants as P
use Rattle.mx_words.specs.declared.perm.Span.{Span}
use Rattle.mx_words.specs.Rights.{perm_at}
use Rattle.mx_words.specs.Newest.{Grant, laid_at, at, map, laid}
use Rattle.mx_words.proofs.OverlayLaws.{laid_at_below, laid_at_behind, map-at, length-map_of}
use Rattle.mx_words.proofs.OverlayLaws.{map-append as map-append_grant}
use Rattle.mx_table.specs.Tables.{granted, row_map, IsRow, no_span}
use Rattle.mx_table.specs.Rows.{span_at, end_at, first_spans}

-- what a list gives at a place
pub got : {X : Type 0} (xs : List X) (i : ℕ) (x d : X) → slice_get xs i ≡ Some x → x ≡ get_or xs i d
got [] i x d e = cc
got (y ∷ ys) zero x d e = cc
got (y ∷ ys) (suc i) x d e = got ys i x d e

-- an entry that doesn't cover a word leaves its permission
kept_by : (i : ℕ) (older : Perm) (s : Span) → (i < s.first) ⊎ (s.first + s.count ≤ i) → laid_at i older (granted s) ≡ older
kept_by i older s (inl lt) = laid_at_below i older (granted s) lt
kept_by i older s (inr le) = laid_at_behind i older (granted s) le

kept_by_all : (i : ℕ) (older : Perm) (row : List Span) → ((n : ℕ) → n < length row
    → (i < (span_at row n).first) ⊎ ((span_at row n).first + (span_at row n).count ≤ i)) →
    fold (laid_at i) older (list_map granted row) ≡ older
kept_by_all i older [] far = refl
kept_by_all i older (s ∷ row) far =
    ap (λ (p : Perm). fold (laid_at i) p (list_map granted row)) (kept_by i older s (far 0 (omega arith)))
    ∙ kept_by_all i older row (λ n lt. far (suc n) (omega arith))

module _ (words : ℕ) (row : List Span) (is : IsRow words row) where
  -- the spans follow one another
  pub ends_before : (n : ℕ) → n < length row → end_at row n ≤ (span_at row n).first
  ends_before zero lt = omega arith
  ends_before (suc n) lt =
      let e : n + 1 ≡ suc n = omega arith in
      let S : ℕ → Type 0 = λ x. end_at row (suc n) ≤ (span_at row x).first in
      subst S e (is.sorted n (omega arith))

  pub ends_rise : (n k : ℕ) → n + k ≤ length row → end_at row n ≤ end_at row (n + k)
  ends_rise n zero le = let e : n + 0 ≡ n = omega arith in rw e (omega arith)
  ends_rise n (suc k) le =
      let e : n + suc k ≡ suc (n + k) = omega arith in
      let step = ends_before (n + k) (omega arith) in
      let before = ends_rise n k (omega arith) in
      let S : ℕ → Type 0 = λ x. end_at row n ≤ end_at row x in
      let next : end_at row n ≤ end_at row (suc (n + k)) = omega (arith, step, before) in
      subst S (sym e) next

  pub ends_up : (n k : ℕ) → n ≤ k → k ≤ length row → end_at row n ≤ end_at row k
  ends_up n k le most =
      let e : n + (k - n) ≡ k = omega arith in
      let S : ℕ → Type 0 = λ x. end_at row n ≤ end_at row x in
      subst S e (ends_rise n (k - n) (omega arith))

  pub ends_within : (n : ℕ) → n ≤ length row → end_at row n ≤ words
  ends_within zero le = omega arith
  ends_within (suc n) le = is.inside n (omega arith)

  -- after the first n spans their map has no permission, and before their end it is the whole row's
  none_behind : (n i : ℕ) → n ≤ length row → end_at row n ≤ i → at (list_map granted (take n row)) i ≡ P.None
  none_behind n i le from = kept_by_all i P.None (take n row) (λ k lt.
      let small : k < n = omega (arith, length-take n row) in
      let here : span_at (take n row) k ≡ span_at row k = get_or-take n row k no_span small in
      let up : end_at row (suc k) ≤ end_at row n = ends_up (suc k) n (omega arith) le in
      let F : Span → Type 0 = λ s. (i < s.first) ⊎ (s.first + s.count ≤ i) in
      let far : (span_at row k).first + (span_at row k).count ≤ i = omega (arith, up) in
      subst F (sym here) (inr far))

  whole : (n : ℕ) → list_map granted row ≡ list_map granted (take n row) ++ list_map granted (drop n row)
  whole n = ap (list_map granted) (sym (take-append-drop n row)) ∙ map-append granted (take n row) (drop n row)

  same_before : (n i : ℕ) → n ≤ length row → i < end_at row n → at (list_map granted row) i ≡ at (list_map granted (take n row)) i
  same_before n i le before =
      ap (λ (gs : List Grant). at gs i) (whole n)
      ∙ fold-append (laid_at i) P.None (list_map granted (take n row)) (list_map granted (drop n row))
      ∙ kept_by_all i (at (list_map granted (take n row)) i) (drop n row) (λ k lt.
      let within : n + k < length row = omega (arith, length-drop n row) in
      let here : span_at (drop n row) k ≡ span_at row (n + k) = get_or-drop n row k no_span in
      let up : end_at row n ≤ end_at row (n + k) = ends_up n (n + k) (omega arith) (omega arith) in
      let first : end_at row (n + k) ≤ (span_at row (n + k)).first = ends_before (n + k) within in
      let F : Span → Type 0 = λ s. (i < s.first) ⊎ (s.first + s.count ≤ i) in
      let far : i < (span_at row (n + k)).first = omega (arith, up, first) in
      subst F (sym here) (inl far))

  pub tail_none : (n i : ℕ) → n ≤ length row → end_at row n ≤ i → perm_at (first_spans words row n) i ≡ P.None
  tail_none n i le from = elim (cases_lt i words) [
    | inl lt ↦ (map-at (list_map granted (take n row)) words i P.None lt ∙ none_behind n i le from)
    | inr ge ↦ (let past : length (first_spans words row n) ≤ i = omega (arith, length-map_of (list_map granted (take n row)) words) in
        get_or_past (first_spans words row n) i P.None past)
  ]

  pub alike_before : (n i : ℕ) → n ≤ length row → i < end_at row n → perm_at (row_map words row) i ≡ perm_at (first_spans words row n) i
  alike_before n i le before =
      let within = ends_within n le in
      let lt : i < words = omega arith in
      map-at (list_map granted row) words i P.None lt ∙ same_before n i le before
      ∙ sym (map-at (list_map granted (take n row)) words i P.None lt)

  pub length-first : (n : ℕ) → length (first_spans words row n) ≡ words
  length-first n = length-map_of (list_map granted (take n row)) words

  -- one span more is laid over
  pub first_more : (n : ℕ) → n < length row → first_spans words row (n + 1) ≡ laid (granted (span_at row n)) (first_spans words row n)
  first_more n lt =
      ap (λ (ss : List Span). map (list_map granted ss) words) (take_more row n no_span lt)
      ∙ ap (λ (gs : List Grant). map gs words) (map-append granted (take n row) (span_at row n ∷ []))
      ∙ map-append_grant (list_map granted (take n row)) (granted (span_at row n)) words

  pub first_all : (n : ℕ) → length row ≤ n → first_spans words row n ≡ row_map words row
  first_all n le = ap (λ (ss : List Span). map (list_map granted ss) words) (take_all n row le)
