-- Facts of all elements of a list, under the edits that a turn makes; bytes and numbers in them.
use Rattle.std.proofs.Common.{◌≡◌, ℕ, zero, suc, ◌+◌, ◌/◌, ◌%◌, ◌^◌, ◌<◌, ◌≤◌, Bool, true, false, not, cond, nat_lt, ◌||◌, List, [], ◌∷◌}
use Rattle.std.proofs.Common.{◌++◌, length, get_or, set, take, drop, replicate, refl, ◌∙◌, ap, arith, Option, Some}
use mathlib.Core.List.{reverse_aux}
use Rattle.std.specs.Prelude.{reverse, filter, find, IfSome}
use Rattle.std.specs.List.{AllByRecursion, list_any, last_or}
use Rattle.std.proofs.lemmas.List.{length-set}
use Rattle.std.proofs.lemmas.Grind.{common_steps}
use Rattle.mx_words.specs.Bytes.{number_at, put_at, cleared_at}
use Rattle.mx_words.specs.FirstFit.{Area, with_block}

pub all-set : {X : Type 0} (P : X → Type 0) (xs : List X) (i : ℕ) (x : X) → AllByRecursion P xs → P x → AllByRecursion P (set xs i x)
all-set P [] i x h p = h
all-set P (y ∷ ys) zero x h p = (p, h.1)
all-set P (y ∷ ys) (suc i) x h p = (h.0, all-set P ys i x h.1 p)

pub all-append : {X : Type 0} (P : X → Type 0) (xs : List X) (x : X) → AllByRecursion P xs → P x → AllByRecursion P (xs ++ x ∷ [])
all-append P [] x h p = (p, tt)
all-append P (y ∷ ys) x h p = (h.0, all-append P ys x h.1 p)

pub all-take : {X : Type 0} (P : X → Type 0) (n : ℕ) (xs : List X) → AllByRecursion P xs → AllByRecursion P (take n xs)
all-take P zero xs h = tt
all-take P (suc n) [] h = tt
all-take P (suc n) (x ∷ xs) h = (h.0, all-take P n xs h.1)

all-reverse_aux : {X : Type 0} (P : X → Type 0) (xs ys : List X) → AllByRecursion P xs → AllByRecursion P ys
    → AllByRecursion P (reverse_aux xs ys)
all-reverse_aux P [] ys h k = k
all-reverse_aux P (x ∷ xs) ys h k = all-reverse_aux P xs (x ∷ ys) h.1 (h.0, k)

pub all-reverse : {X : Type 0} (P : X → Type 0) (xs : List X) → AllByRecursion P xs → AllByRecursion P (reverse xs)
all-reverse P xs h = all-reverse_aux P xs [] h tt

pub all-filter : {X : Type 0} (P : X → Type 0) (test : X → Bool) (xs : List X) → AllByRecursion P xs → AllByRecursion P (filter test xs)
all-filter P test [] h = tt
all-filter P test (x ∷ xs) h = elim (test x) as (λ b. AllByRecursion P (cond b (x ∷ filter test xs) (filter test xs))) [
  | true ↦ (h.0, all-filter P test xs h.1)
  | false ↦ all-filter P test xs h.1
]

pub all-at : {X : Type 0} (P : X → Type 0) (xs : List X) (d : X) → AllByRecursion P xs → P d → (i : ℕ) → P (get_or xs i d)
all-at P [] d h p i = p
all-at P (x ∷ xs) d h p zero = h.0
all-at P (x ∷ xs) d h p (suc i) = all-at P xs d h.1 p i

pub all-in : {X : Type 0} (P : X → Type 0) (xs : List X) (d : X) → AllByRecursion P xs → (i : ℕ) → i < length xs → P (get_or xs i d)
all-in P [] d h i l = absurd (let q : ⊥ = omega (arith, l) in q)
all-in P (x ∷ xs) d h zero l = h.0
all-in P (x ∷ xs) d h (suc i) l = all-in P xs d h.1 i (omega (arith, l))

pub all-find : {X : Type 0} (P : X → Type 0) (test : X → Bool) (xs : List X) → AllByRecursion P xs → IfSome (find test xs) P
all-find P test [] h = tt
all-find P test (x ∷ xs) h = elim (test x) as (λ b. IfSome (cond b (Some x) (find test xs)) P) [
  | true ↦ h.0
  | false ↦
      all-find P test xs h.1
]

pub found-passes : {X : Type 0} (test : X → Bool) (xs : List X) → IfSome (find test xs) (λ x. test x ≡ true)
found-passes test [] = tt
found-passes test (x ∷ xs) = elim (test x) as (λ b. test x ≡ b → IfSome (cond b (Some x) (find test xs)) (λ y. test y ≡ true)) [
  | true ↦ λ e. e
  | false ↦ λ e. found-passes test xs
] refl

pub all-last : {X : Type 0} (P : X → Type 0) (xs : List X) (o : Option X) → AllByRecursion P xs → IfSome o P → IfSome (last_or o xs) P
all-last P [] o h p = p
all-last P (x ∷ xs) o h p = all-last P xs (Some x) h.1 h.0

pub length-filter-le : {X : Type 0} (test : X → Bool) (xs : List X) → length (filter test xs) ≤ length xs
length-filter-le test [] = omega arith
length-filter-le test (x ∷ xs) = elim (test x) as (λ b. length (cond b (x ∷ filter test xs) (filter test xs)) ≤ suc (length xs)) [
  | true ↦ let e = length-filter-le test xs in omega (arith, e)
  | false ↦ let e = length-filter-le test xs in omega (arith, e)
]

-- where some element passes, fewer don't
pub length-filter-lt : {X : Type 0} (test : X → Bool) (xs : List X) → list_any test xs ≡ true
    → length (filter (λ x. not (test x)) xs) < length xs
length-filter-lt test [] e = absurd (let q : ⊥ = cc in q)
length-filter-lt test (x ∷ xs) e = elim (test x) as
    (λ b. test x ≡ b → (b || list_any test xs) ≡ true → length
    (cond (not b) (x ∷ filter (λ y. not (test y)) xs) (filter (λ y. not (test y)) xs)) < suc (length xs)) [
      | true ↦ λ t p. let q = length-filter-le (λ y. not (test y)) xs in omega (arith, q)
      | false ↦ λ t p. let q = length-filter-lt test xs p in omega (arith, q)
    ] refl e

pub length-with_block : (b : Area) (xs : List Area) → length (with_block b xs) ≡ suc (length xs)
length-with_block b [] = refl
length-with_block b (x ∷ xs) = elim (nat_lt b.first x.first) as (λ t.
    length (cond t (b ∷ x ∷ xs) (x ∷ with_block b xs)) ≡ suc (suc (length xs))) [
      | true ↦ refl
      | false ↦ ap suc (length-with_block b xs)
    ]

bytes-set : (xs : List ℕ) (k v : ℕ) → ((i : ℕ) → get_or xs i 0 < 256) → v < 256 → (i : ℕ) → get_or (set xs k v) i 0 < 256
bytes-set [] k v h p i = h i
bytes-set (x ∷ xs) zero v h p zero = p
bytes-set (x ∷ xs) zero v h p (suc i) = h (suc i)
bytes-set (x ∷ xs) (suc k) v h p zero = h zero
bytes-set (x ∷ xs) (suc k) v h p (suc i) = bytes-set xs k v (λ j. h (suc j)) p i

bytes-append : (xs ys : List ℕ) → ((i : ℕ) → get_or xs i 0 < 256) → ((i : ℕ) → get_or ys i 0 < 256) → (i : ℕ) → get_or (xs ++ ys) i 0 < 256
bytes-append [] ys h k i = k i
bytes-append (x ∷ xs) ys h k zero = h zero
bytes-append (x ∷ xs) ys h k (suc i) = bytes-append xs ys (λ j. h (suc j)) k i

bytes-take : (n : ℕ) (xs : List ℕ) → ((i : ℕ) → get_or xs i 0 < 256) → (i : ℕ) → get_or (take n xs) i 0 < 256
bytes-take zero xs h i = omega arith
bytes-take (suc n) [] h i = omega arith
bytes-take (suc n) (x ∷ xs) h zero = h zero
bytes-take (suc n) (x ∷ xs) h (suc i) = bytes-take n xs (λ j. h (suc j)) i

bytes-drop : (n : ℕ) (xs : List ℕ) → ((i : ℕ) → get_or xs i 0 < 256) → (i : ℕ) → get_or (drop n xs) i 0 < 256
bytes-drop zero xs h i = h i
bytes-drop (suc n) [] h i = omega arith
bytes-drop (suc n) (x ∷ xs) h i = bytes-drop n xs (λ j. h (suc j)) i

bytes-replicate : (n i : ℕ) → get_or {A = ℕ} (replicate n 0) i 0 < 256
bytes-replicate zero i = omega arith
bytes-replicate (suc n) zero = omega arith
bytes-replicate (suc n) (suc i) = bytes-replicate n i

-- stored and cleared bytes
pub length-put_at : (size : ℕ) (xs : List ℕ) (k n : ℕ) → length (put_at xs k size n) ≡ length xs
unfolding put_at
length-put_at zero xs k n = refl
length-put_at (suc size) xs k n = length-put_at size (set xs k (n % 256)) (k + 1) (n / 256) ∙ length-set xs k (n % 256)

pub bytes-put_at : (size : ℕ) (xs : List ℕ) (k n : ℕ) → ((i : ℕ) → get_or xs i 0 < 256) → (i : ℕ) → get_or (put_at xs k size n) i 0 < 256
unfolding put_at
bytes-put_at zero xs k n h = h
bytes-put_at (suc size) xs k n h = bytes-put_at size (set xs k (n % 256)) (k + 1) (n / 256) (bytes-set xs k (n % 256) h (omega arith))

pub length-cleared_at : (xs : List ℕ) (k n : ℕ) → k + n ≤ length xs → length (cleared_at xs k n) ≡ length xs
unfolding cleared_at
length-cleared_at xs k n p = grind (arith, common_steps)

pub bytes-cleared_at : (xs : List ℕ) (k n : ℕ) → ((i : ℕ) → get_or xs i 0 < 256) → (i : ℕ) → get_or (cleared_at xs k n) i 0 < 256
unfolding cleared_at
bytes-cleared_at xs k n h =
    bytes-append (take k xs ++ replicate n 0) (drop (k + n) xs)
    (bytes-append (take k xs) (replicate n 0) (bytes-take k xs h) (bytes-replicate n)) (bytes-drop (k + n) xs h)

-- numbers in bytes
pub number-one : (xs : List ℕ) (k : ℕ) → ((i : ℕ) → get_or xs i 0 < 256) → number_at xs k 1 < 256 ^ 1
unfolding number_at
number-one xs k h = let a = h k in omega (arith, a)

pub number-two : (xs : List ℕ) (k : ℕ) → ((i : ℕ) → get_or xs i 0 < 256) → number_at xs k 2 < 256 ^ 2
unfolding number_at
number-two xs k h = let a = h k in let b = h (k + 1) in omega (arith, a, b)

pub number-four : (xs : List ℕ) (k : ℕ) → ((i : ℕ) → get_or xs i 0 < 256) → number_at xs k 4 < 256 ^ 4
unfolding number_at
number-four xs k h =
    let a = h k in let b = h (k + 1) in let c = h (k + 1 + 1) in let d = h (k + 1 + 1 + 1) in omega (arith, a, b, c, d)
