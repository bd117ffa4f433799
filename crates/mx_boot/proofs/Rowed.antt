-- The spans of areas in the order of their addresses have the map of the areas' grants.
use Rattle.std.proofs.Common.{◌≡◌, ◌⊎◌, inl, inr, ℕ, ◌+◌, ◌<◌, ◌≤◌, true, false, List, [], ◌∷◌, ◌++◌, length, get_or, map, Some, None, refl}
use Rattle.std.proofs.Common.{ap, ◌∙◌, sym, subst, arith}
use Rattle.std.specs.List.{AllByRecursion, list_any, range_with_len}
use Rattle.std.proofs.lemmas.Bool.{cases_lt}
use Rattle.std.proofs.lemmas.List.{length-append, get_or_append_left, get_or-append-add, map-append}
use Rattle.std.proofs.lemmas.Map.Keys.{any_passes_from_place}
use Rattle.mx_words.specs.declared.perm.Perm.TheVariants as P
use Rattle.mx_words.specs.declared.perm.Span.{Span}
use Rattle.mx_words.specs.Newest.{Grant, laid_at, at}
use Rattle.mx_words.specs.Newest.{map as map_of}
use Rattle.mx_words.specs.Ranges.{covers}
use Rattle.mx_words.proofs.OverlayLaws.{covers_from, covers_in, laid_at_in, laid_at_below, laid_at_behind, newest-append}
use Rattle.mx_table.specs.Tables.{IsRow, granted, no_span, row_map}
use Rattle.mx_boot.specs.declared.area.Area.{Area}
use Rattle.mx_boot.specs.Boot.{grant}
use Rattle.mx_boot.specs.Entries.{word_at}
use Rattle.mx_boot.specs.Faults.{shares_word}
use Rattle.mx_boot.specs.Placed.{ArePlaced, IsApart, IsPlaced, next_area}
use Rattle.mx_boot.proofs.Apart.{both_cover, end_is, in_ram}
use Rattle.mx_model.proofs.EachLaws.{all_both, all_mapped}
use Rattle.mx_boot.proofs.Nearest.{next-is, next-from, next-least, next-none}
use Rattle.mx_boot.proofs.Owning.{is_over, newest_is}
use Rattle.mx_boot.proofs.Rows.{at_mapped}
use Rattle.mx_machine.proofs.SmallLaws.{from-each}
use Rattle.mx_model.proofs.JoinLaws.{all-weaker}

-- the span of an area, and the word after it
abbrev pub span_of : Area → Span
span_of a = record { first = word_at a.address; count = a.count; perm = a.perm }

abbrev pub end_of : Area → ℕ
end_of a = word_at a.address + a.count

-- a row of the spans of all areas that begin before a word: it has their map there, and no span beyond
pub record IsRowTo (words to : ℕ) (areas : List Area) (row : List Span) : Type 0 where
  pub is : IsRow words row
  pub last : (i : ℕ) → i < length row → (get_or row i no_span).first + (get_or row i no_span).count ≤ to
  pub few : length row ≤ to
  pub within : to ≤ words
  pub apart : AllByRecursion (λ a. word_at a.address < to → end_of a ≤ to) areas
  pub done : (w : ℕ) → w < to → at (map granted row) w ≡ at (map grant areas) w
  pub rest : (w : ℕ) → to ≤ w → at (map granted row) w ≡ P.None

-- what holds of each span of a row and of one more
grown : (P : ℕ → Span → Type 0) (row : List Span) (s : Span) → ((i : ℕ) → i < length row → P i (get_or row i no_span)) → P (length row) s
    → (i : ℕ) → i < length (row ++ s ∷ []) → P i (get_or (row ++ s ∷ []) i no_span)
grown P row s h p i lt = elim (cases_lt i (length row)) [
  | inl before ↦ subst (P i) (sym (get_or_append_left row (s ∷ []) no_span i before)) (h i before)
  | inr past ↦ (
      let long : length (row ++ s ∷ []) ≡ length row + 1 = length-append row (s ∷ []) in
      let here : length row + 0 ≡ i = omega (arith, long, lt, past) in
      let last : get_or (row ++ s ∷ []) (length row + 0) no_span ≡ s = get_or-append-add row (s ∷ []) 0 no_span in
      subst (λ k. P k (get_or (row ++ s ∷ []) k no_span)) here
      (subst (P (length row + 0)) (sym last) (subst (λ k. P k s) (let same : length row ≡ length row + 0 = omega arith in same) p)))
]

-- no area covers a word
no_area : (areas : List Area) (w : ℕ) → AllByRecursion (λ a. covers (word_at a.address) a.count w ≡ true → ⊥) areas
    → at (map grant areas) w ≡ P.None
no_area areas w none = newest_is P.None P.None (map grant areas) w
    (all_mapped grant (λ (e : Grant). is_over w e ≡ true → e.value ≡ P.None) areas
    (all-weaker (λ (a : Area). covers (word_at a.address) a.count w ≡ true → ⊥) (λ (a : Area). covers (word_at a.address) a.count w ≡ true
    → a.perm ≡ P.None) areas
    (λ a not h. absurd (not h)) none))
    (inr refl)

any_each : (areas : List Area) (w : ℕ) → AllByRecursion (λ a. covers (word_at a.address) a.count w ≡ true
    → list_any (is_over w) (map grant areas) ≡ true) areas
any_each areas w = from-each (λ (a : Area). covers (word_at a.address) a.count w ≡ true
    → list_any (is_over w) (map grant areas) ≡ true) areas
    (λ i a found h. any_passes_from_place (is_over w) (map grant areas) i (grant a) (at_mapped grant areas i a found) h)

module _ (words to : ℕ) (areas : List Area) (row : List Span) (a : Area) (placed : ArePlaced words areas)
    (so_far : IsRowTo words to areas row) (next : next_area to areas ≡ Some a) where
  abbrev s : Span
  s = span_of a

  own : IsPlaced words a
  own = next-is (IsPlaced words) to areas a placed.each next

  alone : IsApart areas a
  alone = next-is (IsApart areas) to areas a placed.apart next

  from : to ≤ word_at a.address
  from = next-from to areas a next

  fits : end_of a ≤ words
  fits = end_is words a (in_ram words a own.inside)

  -- an area that covers a word of this one is this one
  same : (b : Area) (w : ℕ) → IsPlaced words b → (shares_word b a ≡ false) ⊎ (b ≡ a) → covers (word_at b.address) b.count w ≡ true
      → covers (word_at a.address) a.count w ≡ true → b ≡ a
  same b w there apart cb ca = elim apart [
    | inl no_word ↦ absurd (let both = both_cover words b a w (in_ram words b there.inside) (in_ram words a own.inside) cb ca in cc)
    | inr is ↦ is
  ]

  others : AllByRecursion (λ b. IsPlaced words b × ((shares_word b a ≡ false) ⊎ (b ≡ a))) areas
  others = all_both (IsPlaced words) (λ b. (shares_word b a ≡ false) ⊎ (b ≡ a)) areas placed.each alone

  here : (w : ℕ) → word_at a.address ≤ w → w < end_of a → at (map grant areas) w ≡ a.perm
  here w ge lt =
      let ca = covers_in (word_at a.address) a.count w ge lt in
      newest_is P.None a.perm (map grant areas) w
      (search (arith, all_mapped, is_over, all-weaker, same, others))
      (inl (next-is (λ b. covers (word_at b.address) b.count w ≡ true
      → list_any (is_over w) (map grant areas) ≡ true) to areas a (any_each areas w) next ca))

  between : (w : ℕ) → to ≤ w → w < word_at a.address → at (map grant areas) w ≡ P.None
  between w ge lt = no_area areas w
      (all-weaker (λ b. (word_at b.address < to → end_of b ≤ to) × (to ≤ word_at b.address → word_at a.address ≤ word_at b.address))
      (λ (b : Area). covers (word_at b.address) b.count w ≡ true → ⊥) areas
      (search (arith, covers_from, cases_lt))
      (all_both (λ (b : Area). word_at b.address < to → end_of b ≤ to) (λ (b : Area). to ≤ word_at b.address
      → word_at a.address ≤ word_at b.address) areas so_far.apart (next-least to areas a next)))

  more : (w : ℕ) → at (map granted (row ++ s ∷ [])) w ≡ laid_at w (at (map granted row) w) (granted s)
  more w = ap (λ gs. at gs w) (map-append granted row (s ∷ [])) ∙ newest-append P.None (map granted row) (granted s) w

  done : (w : ℕ) → w < end_of a → at (map granted (row ++ s ∷ [])) w ≡ at (map grant areas) w
  done w lt =
      search (arith, cases_lt, more, laid_at_below, s, from, so_far.done, so_far.rest, between, laid_at_in, here)

  rest : (w : ℕ) → end_of a ≤ w → at (map granted (row ++ s ∷ [])) w ≡ P.None
  rest w ge = more w ∙ laid_at_behind w (at (map granted row) w) (granted s) ge ∙ so_far.rest w (let f = from in omega (arith, f, ge))

  apart : AllByRecursion (λ b. word_at b.address < end_of a → end_of b ≤ end_of a) areas
  apart = all-weaker (λ b. ((word_at b.address < to → end_of b ≤ to) × (to ≤ word_at b.address → word_at a.address ≤ word_at b.address))
      × (IsPlaced words b × ((shares_word b a ≡ false) ⊎ (b ≡ a))))
      (λ (b : Area). word_at b.address < end_of a → end_of b ≤ end_of a) areas
      (λ b h lt. let f = from in elim (cases_lt (word_at b.address) to) [
        | inl before ↦ (let e = h.0.0 before in omega (arith, e, f))
        | inr behind ↦ (
            let some = h.1.0.some in
            let cb = covers_in (word_at b.address) b.count (word_at b.address) (omega arith) (omega (arith, some)) in
            let ca = covers_in (word_at a.address) a.count (word_at b.address) (h.0.1 behind) lt in
            let is = same b (word_at b.address) h.1.0 h.1.1 cb ca in
            subst (λ (x : Area). end_of x ≤ end_of a) (sym is) (let le : end_of a ≤ end_of a = omega arith in le))
      ])
      (search (arith, all_both, so_far.apart, next-least, others))

  -- the span before a place of the longer row
  before_is : (i : ℕ) → i < length row → get_or (row ++ s ∷ []) i no_span ≡ get_or row i no_span
  before_is i lt = get_or_append_left row (s ∷ []) no_span i lt

  sorted : (i : ℕ) → i + 1 < length (row ++ s ∷ []) → (get_or (row ++ s ∷ []) i no_span).first + (get_or (row ++ s ∷ []) i no_span).count
      ≤ (get_or (row ++ s ∷ []) (i + 1) no_span).first
  sorted i lt = grown (λ k x. (j : ℕ) → j + 1 ≡ k → (get_or (row ++ s ∷ []) j no_span).first + (get_or (row ++ s ∷ []) j no_span).count
      ≤ x.first) row s
      (search (arith, before_is, so_far.is.sorted))
      (search (arith, so_far.last, from, before_is))
      (i + 1) lt i refl

  pub row-step : IsRowTo words (end_of a) areas (row ++ s ∷ [])
  row-step = record {
    is = record {
      some = grown (λ i x. 0 < x.count) row s so_far.is.some own.some;
      sorted = sorted;
      inside = grown (λ i x. x.first + x.count ≤ words) row s so_far.is.inside fits;
    };
    last = grown (λ i x. x.first + x.count ≤ end_of a) row s (λ i lt. let l = so_far.last i lt in let f = from in omega (arith, l, f))
        ((omega arith));
    few = (let few = so_far.few in let f = from in let some = own.some in omega (arith, length-append row (s ∷ []), few, f, some));
    within = fits;
    apart = apart;
    done = done;
    rest = rest;
  }

  pub row-onward : to < end_of a
  row-onward = let f = from in let some = own.some in omega (arith, f, some)

-- a function of numbers that is the same
map_same : {A : Type 0} (f g : ℕ → A) (xs : List ℕ) → ((x : ℕ) → f x ≡ g x) → map f xs ≡ map g xs
map_same f g [] h = refl
map_same f g (x ∷ xs) h = ap (λ y. y ∷ map f xs) (h x) ∙ ap (λ ys. g x ∷ ys) (map_same f g xs h)

-- where no area begins at a word or after it, the row is whole
pub row-end : (words to : ℕ) (areas : List Area) (row : List Span) → IsRowTo words to areas row → next_area to areas ≡ None
    → row_map words row ≡ map_of (map grant areas) words
row-end words to areas row so_far none = map_same (at (map granted row)) (at (map grant areas)) (range_with_len 0 words) (λ w.
    elim (cases_lt w to) [
      | inl before ↦ so_far.done w before
      | inr ge ↦ so_far.rest w ge ∙ sym (no_area areas w
          (all-weaker (λ b. (word_at b.address < to → end_of b ≤ to) × (word_at b.address < to)) (λ (b : Area).
          covers (word_at b.address) b.count w ≡ true → ⊥) areas
          (λ b h c. let r = covers_from (word_at b.address) b.count w c in let e = h.0 h.1 in let q : ⊥ = omega (arith, e, r.1, ge) in q)
          (all_both (λ (b : Area). word_at b.address < to → end_of b ≤ to) (λ (b : Area). word_at b.address < to) areas so_far.apart
          (next-none to areas none))))
    ])
