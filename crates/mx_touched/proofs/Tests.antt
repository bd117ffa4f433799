-- A test of some number of a range.
use Rattle.std.proofs.Common.{◌≡◌, ℕ, zero, suc, ◌+◌, ◌<◌, ◌≤◌, Bool, true, false, ◌||◌, List, [], ◌∷◌, sym, ◌∙◌, refl, ap, arith, ⊎_elim}
use Rattle.std.specs.List.{list_any, range_with_len}
use Rattle.std.proofs.lemmas.Bool.{cases_lt, or_cases, or_left, or_parts, or_right}

-- it passes for none, or for one
pub any-none : (p : ℕ → Bool) (xs : List ℕ) → ((i : ℕ) → p i ≡ false) → list_any p xs ≡ false
any-none p [] k = refl
any-none p (x ∷ xs) k = ap (λ (b : Bool). b || list_any p xs) (k x) ∙ any-none p xs k

pub any-some : (p : ℕ → Bool) (first n i : ℕ) → first ≤ i → i < first + n → p i ≡ true → list_any p (range_with_len first n) ≡ true
any-some p first zero i l m e = absurd (omega arith)
any-some p first (suc n) i l m e =
    ⊎_elim
    (λ (more : first < i). or_right (p first) _ (any-some p (first + 1) n i (omega (arith, more)) (omega (arith, m)) e))
    (λ (here : i ≤ first). let same : i ≡ first = omega (arith, here, l) in or_left (p first) _ (ap p (sym same) ∙ e))
    (cases_lt first i)

pub record Hit (p : ℕ → Bool) : Type 0 where
  pub at : ℕ
  pub hit : p at ≡ true

pub any-found : (p : ℕ → Bool) (xs : List ℕ) → list_any p xs ≡ true → Hit p
any-found p [] e = absurd (let q : ⊥ = cc in q)
any-found p (x ∷ xs) e = ⊎_elim (λ h. record { at = x; hit = h }) (λ h. any-found p xs h) (or_cases (p x) (list_any p xs) e)

pub any-missed : (p : ℕ → Bool) (first n i : ℕ) → list_any p (range_with_len first n) ≡ false → first ≤ i → i < first + n → p i ≡ false
any-missed p first zero i e l m = absurd (omega arith)
any-missed p first (suc n) i e l m =
    let parts = or_parts (p first) (list_any p (range_with_len (first + 1) n)) e in
    ⊎_elim
    (λ (more : first < i). any-missed p (first + 1) n i parts.1 (omega (arith, more)) (omega (arith, m)))
    (λ (here : i ≤ first). let same : i ≡ first = omega (arith, here, l) in ap p same ∙ parts.0)
    (cases_lt first i)

-- for none of a range
pub any-below : (p : ℕ → Bool) (first n : ℕ) → ((i : ℕ) → first ≤ i → i < first + n → p i ≡ false)
    → list_any p (range_with_len first n) ≡ false
any-below p first zero k = refl
any-below p first (suc n) k =
    ap (λ (b : Bool). b || list_any p (range_with_len (first + 1) n)) (k first (omega arith) (omega arith))
    ∙ any-below p (first + 1) n (λ i l m. k i (omega (arith, l)) (omega (arith, m)))
