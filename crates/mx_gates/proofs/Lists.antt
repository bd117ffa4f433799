-- What `find` gives past elements that fail, and beside a filter.
use Rattle.std.proofs.Common.{◌≡◌, ℕ, zero, suc, ◌-◌, ◌<◌, Bool, false, not, cond, ◌||◌, List, [], ◌∷◌, length, get_or, slice_get, filter}
use Rattle.std.proofs.Common.{find, None, Some, inl, inr, refl, sym, ap, ◌∙◌, arith, true}
use Rattle.std.specs.Option.{is_some}
use Rattle.std.specs.List.{list_any, last_or}
use Rattle.std.proofs.lemmas.Bool.{cases_Bool, false≢true}
use Rattle.std.proofs.lemmas.List.Filters.{length-filter_both}

-- nothing passes, so the filter of what fails keeps all
pub filter-find_none : {X : Type 0} (p : X → Bool) (xs : List X) → find p xs ≡ None → filter (λ x. not (p x)) xs ≡ xs
filter-find_none p [] h = refl
filter-find_none p (x ∷ xs) h = elim (cases_Bool (p x)) [
  | inl passes ↦ let bad = sym (ap (λ b. cond b (Some x) (find p xs)) passes) ∙ h in cc
  | inr fails ↦ ap (λ b. cond (not b) (x ∷ filter (λ y. not (p y)) xs) (filter (λ y. not (p y)) xs)) fails
      ∙ ap (λ ys. x ∷ ys) (filter-find_none p xs (sym (ap (λ b. cond b (Some x) (find p xs)) fails) ∙ h))
]

-- one is the first that passes, so that filter leaves something out
length-filter_some : {X : Type 0} (p : X → Bool) (xs : List X) (found : X) → find p xs ≡ Some found
    → length (filter (λ x. not (p x)) xs) < length xs
length-filter_some p [] found h = cc
length-filter_some p (x ∷ xs) found h =
    let rest = filter (λ y. not (p y)) xs in
    elim (cases_Bool (p x)) [
      | inl passes ↦ let e = ap (λ b. length (cond (not b) (x ∷ rest) rest)) passes in
          omega (arith, e, length-filter_both p (λ y. not (p y)) (λ _. refl) xs)
      | inr fails ↦ let e = ap (λ b. length (cond (not b) (x ∷ rest) rest)) fails in
          omega (arith, e, length-filter_some p xs found (sym (ap (λ b. cond b (Some x) (find p xs)) fails) ∙ h))
    ]

-- a list with an element that passes has a first one
pub list_any-find : {X : Type 0} (p : X → Bool) (xs : List X) → list_any p xs ≡ is_some (find p xs)
list_any-find p [] = refl
list_any-find p (x ∷ xs) = elim (cases_Bool (p x)) [
  | inl passes ↦ ap (λ b. b || list_any p xs) passes ∙ sym (ap (λ b. is_some (cond b (Some x) (find p xs))) passes)
  | inr fails ↦ ap (λ b. b || list_any p xs) fails ∙ list_any-find p xs ∙ sym (ap (λ b. is_some (cond b (Some x) (find p xs))) fails)
]

pub find_none-any : {X : Type 0} (p : X → Bool) (xs : List X) → list_any p xs ≡ false → find p xs ≡ None
find_none-any p xs h = elim (find p xs) as (λ o. is_some o ≡ false → o ≡ None) [
  | None ↦ λ _. refl
  | Some x ↦ λ e. absurd (false≢true (sym e))
] (sym (list_any-find p xs) ∙ h)

-- something passes, so that filter leaves something out
pub length-filter_any : {X : Type 0} (p : X → Bool) (xs : List X) → list_any p xs ≡ true → length (filter (λ x. not (p x)) xs) < length xs
length-filter_any p xs h = elim (find p xs) as (λ o. find p xs ≡ o → is_some o ≡ true → length (filter (λ x. not (p x)) xs) < length xs) [
  | None ↦ λ _ e. absurd (false≢true e)
  | Some x ↦ λ found _. length-filter_some p xs x found
] refl (sym (list_any-find p xs) ∙ h)

-- nothing that the filter of what fails keeps passes
pub find-filter_not : {X : Type 0} (p : X → Bool) (xs : List X) → find p (filter (λ x. not (p x)) xs) ≡ None
find-filter_not p [] = refl
find-filter_not p (x ∷ xs) =
    let rest = filter (λ y. not (p y)) xs in
    elim (cases_Bool (p x)) [
      | inl passes ↦ ap (λ b. find p (cond (not b) (x ∷ rest) rest)) passes ∙ find-filter_not p xs
      | inr fails ↦ ap (λ b. find p (cond (not b) (x ∷ rest) rest)) fails ∙ ap (λ b. cond b (Some x) (find p rest)) fails
          ∙ find-filter_not p xs
    ]

-- nothing passes, so no element does
pub find_none-at : {X : Type 0} (p : X → Bool) (xs : List X) (k : ℕ) (d : X) → find p xs ≡ None → k < length xs → p (get_or xs k d) ≡ false
find_none-at p [] k d h within = absurd (omega arith)
find_none-at p (x ∷ xs) zero d h within = elim (cases_Bool (p x)) [
  | inl passes ↦ let bad = sym (ap (λ b. cond b (Some x) (find p xs)) passes) ∙ h in cc
  | inr fails ↦ fails
]
find_none-at p (x ∷ xs) (suc k) d h within = elim (cases_Bool (p x)) [
  | inl passes ↦ let bad = sym (ap (λ b. cond b (Some x) (find p xs)) passes) ∙ h in cc
  | inr fails ↦ find_none-at p xs k d (sym (ap (λ b. cond b (Some x) (find p xs)) fails) ∙ h) (omega arith)
]

-- the last of a list is what stands at its last place
last_is : {X : Type 0} (x : X) (xs : List X) → last_or (Some x) xs ≡ slice_get (x ∷ xs) (length xs)
last_is x [] = refl
last_is x (y ∷ ys) = last_is y ys

pub last-slice_get : {X : Type 0} (xs : List X) → last_or None xs ≡ slice_get xs (length xs - 1)
last-slice_get [] = refl
last-slice_get (x ∷ xs) =
    last_is x xs ∙ ap (slice_get (x ∷ xs)) (let e : length xs ≡ suc (length xs) - 1 = omega arith in e)

-- no element passes, so none is the first
pub find_none-from : {X : Type 0} (p : X → Bool) (xs : List X) → ((k : ℕ) (d : X) → k < length xs → p (get_or xs k d) ≡ false)
    → find p xs ≡ None
find_none-from p [] h = refl
find_none-from p (x ∷ xs) h = ap (λ b. cond b (Some x) (find p xs)) (h 0 x (omega arith))
    ∙ find_none-from p xs (λ k d within. h (suc k) d (omega arith))
