-- Laws on counting, summing, testing and listing the numbers below a bound.
use Rattle.std.proofs.Common.{◌≡◌, ◌≢◌, ℕ, zero, suc, ◌+◌, ◌-◌, ◌<◌, ◌≤◌, Bool, true, false, List, [], ◌∷◌, length, get_or, sum_by, refl}
use Rattle.std.proofs.Common.{sym, ◌∙◌, ap, arith, inl, inr, ◌⊎◌, add-one, length-append}
use Rattle.std.proofs.lemmas.Bool.{cases_lt, and_parts}
use Rattle.std.proofs.lemmas.List.{get_or_append_left, get_or_push, same_lists}
use Rattle.std.proofs.lemmas.List.Sums.{sum_by_push}
use Rattle.mx_words.specs.Counting.{bit, count_below, all_below, sum_below, list_below}

-- a number that is at most n is below n or is n
pub cases_below : (i n : ℕ) → i < suc n → (i < n) ⊎ (i ≡ n)
cases_below i n lt = elim (cases_lt i n) [ inl h ↦ inl h | inr h ↦ inr (omega arith) ]

-- one step of the recursion
pub count_below-zero : (p : ℕ → Bool) → count_below 0 p ≡ 0
unfolding count_below
count_below-zero p = refl

pub count_below-suc : (n : ℕ) (p : ℕ → Bool) → count_below (suc n) p ≡ count_below n p + bit (p n)
unfolding count_below
count_below-suc n p = refl

pub count_below-more : (n : ℕ) (p : ℕ → Bool) → count_below (n + 1) p ≡ count_below n p + bit (p n)
count_below-more n p = rw add-one (count_below-suc n p)

pub bit-le : (b : Bool) → bit b ≤ 1
bit-le true = omega arith
bit-le false = omega arith

-- a number that passes counts one, and one that fails counts nothing
pub count_below_yes : (n : ℕ) (p : ℕ → Bool) → p n ≡ true → count_below (n + 1) p ≡ count_below n p + 1
count_below_yes n p e = count_below-more n p ∙ ap (λ b. count_below n p + bit b) e

pub count_below_no : (n : ℕ) (p : ℕ → Bool) → p n ≡ false → count_below (n + 1) p ≡ count_below n p
count_below_no n p e =
    let zero_more : count_below n p + bit false ≡ count_below n p = omega arith in
    count_below-more n p ∙ ap (λ b. count_below n p + bit b) e ∙ zero_more

-- tests that agree below the bound count alike
pub count_below_agree : (n : ℕ) (p q : ℕ → Bool) → ((i : ℕ) → i < n → p i ≡ q i) → count_below n p ≡ count_below n q
unfolding count_below
count_below_agree zero p q same = refl
count_below_agree (suc n) p q same =
    let here : bit (p n) ≡ bit (q n) = ap bit (same n (omega arith)) in
    let before = count_below_agree n p q (λ i lt. same i (omega arith)) in
    omega (arith, here, before)

pub count_below-le : (n : ℕ) (p : ℕ → Bool) → count_below n p ≤ n
unfolding count_below
count_below-le zero p = omega arith
count_below-le (suc n) p = omega (arith, count_below-le n p, bit-le (p n))

-- on from n to m, tests that agree there count the same more
pub count_below_go_on : (n k : ℕ) (p q : ℕ → Bool) → ((i : ℕ) → n ≤ i → i < n + k → p i ≡ q i) →
    count_below (n + k) p + count_below n q ≡ count_below (n + k) q + count_below n p
count_below_go_on n zero p q same = let e : n + 0 ≡ n = omega arith in rw e (omega arith)
count_below_go_on n (suc k) p q same =
    let e : n + suc k ≡ suc (n + k) = omega arith in
    let here : bit (p (n + k)) ≡ bit (q (n + k)) = ap bit (same (n + k) (omega arith) (omega arith)) in
    let before = count_below_go_on n k p q (λ i le lt. same i le (omega arith)) in
    rw (e, count_below-suc (n + k) p, count_below-suc (n + k) q) (omega (arith, here, before))

pub count_below_along : (n m : ℕ) (p q : ℕ → Bool) → n ≤ m → ((i : ℕ) → n ≤ i → i < m → p i ≡ q i) →
    count_below m p + count_below n q ≡ count_below m q + count_below n p
count_below_along n m p q le same =
    let e : n + (m - n) ≡ m = omega arith in
    let P : ℕ → Type 0 = λ x. count_below x p + count_below n q ≡ count_below x q + count_below n p in
    rw (sym e) (count_below_go_on n (m - n) p q (λ i le lt. same i le (omega arith)))

pub count_below_none : (n : ℕ) (p : ℕ → Bool) → ((i : ℕ) → i < n → p i ≡ false) → count_below n p ≡ 0
unfolding count_below
count_below_none zero p failing = refl
count_below_none (suc n) p failing =
    let here : bit (p n) ≡ 0 = ap bit (failing n (omega arith)) in
    omega (arith, here, count_below_none n p (λ i lt. failing i (omega arith)))

pub count_below_all : (n : ℕ) (p : ℕ → Bool) → ((i : ℕ) → i < n → p i ≡ true) → count_below n p ≡ n
unfolding count_below
count_below_all zero p passing = refl
count_below_all (suc n) p passing =
    let here : bit (p n) ≡ 1 = ap bit (passing n (omega arith)) in
    omega (arith, here, count_below_all n p (λ i lt. passing i (omega arith)))

-- where no number from n up to m passes, the count stands still
pub count_below_still : (n m : ℕ) (p : ℕ → Bool) → n ≤ m → ((i : ℕ) → n ≤ i → i < m → p i ≡ false) → count_below m p ≡ count_below n p
count_below_still n m p le failing =
    let along = count_below_along n m p (λ _. false) le failing in
    omega (arith, along, count_below_none n (λ _. false) (λ i lt. refl), count_below_none m (λ _. false) (λ i lt. refl))

-- a prefix passes
pub count_below_is : (n r : ℕ) (p : ℕ → Bool) → r ≤ n → ((i : ℕ) → i < r → p i ≡ true) → ((i : ℕ) → r ≤ i → i < n → p i ≡ false)
    → count_below n p ≡ r
count_below_is n r p le passing failing = count_below_still r n p le failing ∙ count_below_all r p passing

-- the count never falls, and rises by at most one at a step
pub count_below-up : (n k : ℕ) (p : ℕ → Bool) → count_below n p ≤ count_below (n + k) p
count_below-up n zero p = let e : n + 0 ≡ n = omega arith in rw e (omega arith)
count_below-up n (suc k) p =
    let e : n + suc k ≡ suc (n + k) = omega arith in
    rw (e, count_below-suc (n + k) p) (omega (arith, count_below-up n k p))

pub count_below-mono : (n m : ℕ) (p : ℕ → Bool) → n ≤ m → count_below n p ≤ count_below m p
count_below-mono n m p le =
    let e : n + (m - n) ≡ m = omega arith in
    let up : count_below n p ≤ count_below (n + (m - n)) p = count_below-up n (m - n) p in
    rw e at up

-- a number that passes is counted by each greater bound
pub count_below_after : (i n : ℕ) (p : ℕ → Bool) → i < n → p i ≡ true → count_below i p + 1 ≤ count_below n p
count_below_after i n p lt e = omega (arith, count_below_yes i p e, count_below-mono (i + 1) n p (omega arith))

-- where the counts at two bounds are the same, no number between them passes
pub count_below_same : (n m i : ℕ) (p : ℕ → Bool) → count_below m p ≡ count_below n p → n ≤ i → i < m → p i ≡ false
count_below_same n m i p e le lt = by (p i) refl
  where
    by : (b : Bool) → p i ≡ b → p i ≡ false
    by true passing = absurd (omega (arith, count_below_after i m p lt passing, count_below-mono n i p le))
    by false failing = failing

-- two tests that differ in at most one place
pub count_below_changed : (n k : ℕ) (p q : ℕ → Bool) → k < n → ((i : ℕ) → i < n → i ≢ k → p i ≡ q i) →
    count_below n q + bit (p k) ≡ count_below n p + bit (q k)
count_below_changed n k p q lt same =
    let before = count_below_agree k p q (λ i below. same i (omega arith) (omega arith)) in
    let behind = count_below_along (k + 1) n p q (omega arith) (λ i le below. same i below (omega arith)) in
    omega (arith, before, behind, count_below-more k p, count_below-more k q)

-- the first number apart
pub count_below_first : (n : ℕ) (p : ℕ → Bool) → count_below (n + 1) p ≡ bit (p 0) + count_below n (λ i. p (i + 1))
count_below_first zero p = rw (count_below-more 0 p, count_below-zero p, count_below-zero (λ i. p (i + 1))) (omega arith)
count_below_first (suc n) p =
    let e : suc n + 1 ≡ suc (n + 1) = omega arith in
    let f : n + 1 ≡ suc n = omega arith in
    let here : p (suc n) ≡ p (n + 1) = ap p (sym f) in
    let before = count_below_first n p in
    let one : count_below (suc n) p ≡ count_below (n + 1) p = ap (λ x. count_below x p) (sym f) in
    let last : bit (p (suc n)) ≡ bit (p (n + 1)) = ap bit here in
    count_below-more (suc n) p ∙ let goal : count_below (suc n) p + bit (p (suc n)) ≡ bit (p 0) + count_below (suc n) (λ i. p (i + 1)) =
    omega (arith, one, last, before, count_below-suc n (λ i. p (i + 1))) in goal

-- the number at which the count passes k
pub record IsCounted (n : ℕ) (p : ℕ → Bool) (k i : ℕ) : Type 0 where
  pub below : i < n
  pub passes : p i ≡ true
  pub place : count_below i p ≡ k

wider : (n : ℕ) (p : ℕ → Bool) (k : ℕ) → (i : ℕ) × IsCounted n p k i → (i : ℕ) × IsCounted (suc n) p k i
wider n p k (i, found) = (i, record { below = omega (arith, found.below); passes = found.passes; place = found.place })

pub count_below_find : (n : ℕ) (p : ℕ → Bool) (k : ℕ) → k < count_below n p → (i : ℕ) × IsCounted n p k i
count_below_find zero p k lt = let none = count_below-zero p in absurd (omega (arith, none))
count_below_find (suc n) p k lt = by (p n) refl (λ (h : k < count_below n p). wider n p k (count_below_find n p k h))
  where
    by : (b : Bool) → p n ≡ b → (k < count_below n p → (i : ℕ) × IsCounted (suc n) p k i) → (i : ℕ) × IsCounted (suc n) p k i
    by false e before =
        let step = count_below-suc n p in
        let none : bit (p n) ≡ 0 = ap bit e in
        before (omega (arith, step, none))
    by true e before =
        let step = count_below-suc n p in
        let one : bit (p n) ≡ 1 = ap bit e in
        elim (cases_below k (count_below n p) (omega (arith, step, one))) [
          | inl h ↦ before h
          | inr h ↦ (n, record { below = omega arith; passes = e; place = sym h })
        ]

pub all_below-at : (n i : ℕ) (p : ℕ → Bool) → all_below n p ≡ true → i < n → p i ≡ true
unfolding all_below
all_below-at zero i p all lt = absurd (omega arith)
all_below-at (suc n) i p all lt =
    elim (cases_below i n (omega arith)) [
      | inl h ↦ all_below-at n i p (and_parts (all_below n p) (p n) all).0 h
      | inr h ↦ ap p h
          ∙ (and_parts (all_below n p) (p n) all).1
    ]

-- the numbers below a, and k more from a on
pub count_below-plus : (a k : ℕ) (p : ℕ → Bool) → count_below (a + k) p ≡ count_below a p + count_below k (λ i. p (a + i))
unfolding count_below
count_below-plus a zero p =
    let none : a + 0 ≡ a = omega arith in
    let same : count_below (a + 0) p ≡ count_below a p = ap (λ n. count_below n p) none in
    omega (arith, same)
count_below-plus a (suc k) p =
    let here : a + suc k ≡ suc (a + k) = omega arith in
    let more : count_below (a + suc k) p ≡ count_below (a + k) p + bit (p (a + k)) = ap (λ n. count_below n p) here in
    omega (arith, more, count_below-plus a k p)

-- tests that differ on k numbers from a on alone
pub count_below_part : (n a k : ℕ) (p q : ℕ → Bool) → a + k ≤ n → ((i : ℕ) → i < n → (i < a) ⊎ (a + k ≤ i) → p i ≡ q i) →
    count_below n q + count_below k (λ i. p (a + i)) ≡ count_below n p + count_below k (λ i. q (a + i))
count_below_part n a k p q within same =
    let low : count_below a p ≡ count_below a q = count_below_agree a p q (λ i below. same i (omega arith) (inl below)) in
    let high : count_below n p + count_below (a + k) q ≡ count_below n q + count_below (a + k) p =
    count_below_along (a + k) n p q within (λ i from below. same i below (inr from)) in
    omega (arith, low, high, count_below-plus a k p, count_below-plus a k q)

-- sums
pub sum_below-zero : (f : ℕ → ℕ) → sum_below 0 f ≡ 0
unfolding sum_below
sum_below-zero f = refl

pub sum_below-more : (n : ℕ) (f : ℕ → ℕ) → sum_below (n + 1) f ≡ sum_below n f + f n
unfolding sum_below
sum_below-more n f = rw add-one refl

pub sum_below_agree : (n : ℕ) (f g : ℕ → ℕ) → ((i : ℕ) → i < n → f i ≡ g i) → sum_below n f ≡ sum_below n g
unfolding sum_below
sum_below_agree zero f g same = refl
sum_below_agree (suc n) f g same =
    omega (arith, same n (omega arith), sum_below_agree n f g (λ i lt. same i (omega arith)))

pub sum_below_at_most : (n : ℕ) (f g : ℕ → ℕ) → ((i : ℕ) → i < n → f i ≤ g i) → sum_below n f ≤ sum_below n g
unfolding sum_below
sum_below_at_most zero f g le = omega arith
sum_below_at_most (suc n) f g le =
    omega (arith, le n (omega arith), sum_below_at_most n f g (λ i lt. le i (omega arith)))

pub sum_below_changed : (n k : ℕ) (f g : ℕ → ℕ) → k < n → ((i : ℕ) → i < n → i ≢ k → f i ≡ g i) → sum_below n g + f k ≡ sum_below n f + g k
unfolding sum_below
sum_below_changed zero k f g lt same = absurd (omega arith)
sum_below_changed (suc n) k f g lt same =
    elim (cases_below k n (omega arith)) [
      | inl h ↦ omega (arith, same n (omega arith) (omega arith), sum_below_changed n k f g h (λ i below ne. same i (omega arith) ne))
      | inr h ↦ (let e : f k ≡ f n = ap f h in let e' : g k ≡ g n = ap g h in
          omega (arith, e, e', sum_below_agree n f g (λ i below. same i (omega arith) (omega arith))))
    ]

-- lists
pub length-list_below : {A : Type 0} (n : ℕ) (f : ℕ → A) → length (list_below n f) ≡ n
unfolding list_below
length-list_below zero f = refl
length-list_below (suc n) f = omega (arith, length-append (list_below n f) (f n ∷ []), length-list_below n f)

pub list_below-at : {A : Type 0} (n i : ℕ) (f : ℕ → A) (d : A) → i < n → get_or (list_below n f) i d ≡ f i
unfolding list_below
list_below-at zero i f d lt = absurd (omega arith)
list_below-at (suc n) i f d lt =
    elim (cases_below i n (omega arith)) [
      | inl h ↦ (let len : i < length (list_below n f) = omega (arith, length-list_below n f) in
          get_or_append_left (list_below n f) (f n ∷ []) d i len ∙ list_below-at n i f d h)
      | inr h ↦ (get_or_push (list_below n f) (f n) d i (length-list_below n f ∙ sym h) ∙ ap f (sym h))
    ]

-- a list is the values at its places
pub list_below_is : {A : Type 0} (n : ℕ) (f : ℕ → A) (xs : List A) → length xs ≡ n → ((i : ℕ) (d : A) → i < n → get_or xs i d ≡ f i)
    → list_below n f ≡ xs
list_below_is n f xs len each =
    same_lists (list_below n f) xs (length-list_below n f ∙ sym len)
    (λ k d lt. let below : k < n = omega (arith, length-list_below n f) in list_below-at n k f d below ∙ sym (each k d below))

pub sum_by-list_below : {A : Type 0} (f : A → ℕ) (n : ℕ) (g : ℕ → A) → sum_by f (list_below n g) ≡ sum_below n (λ i. f (g i))
unfolding list_below sum_below
sum_by-list_below f zero g = refl
sum_by-list_below f (suc n) g = sum_by_push f (list_below n g) (g n) ∙ ap (λ s. s + f (g n)) (sum_by-list_below f n g)
