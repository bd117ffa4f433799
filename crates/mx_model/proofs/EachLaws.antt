-- What holds of each element of a list.
use Rattle.std.proofs.Common.{◌≡◌, ℕ, zero, suc, ◌+◌, ◌*◌, ◌<◌, ◌≤◌, Bool, true, false, cond, ◌||◌, List, [], ◌∷◌, ◌++◌, length, map, find}
use Rattle.std.proofs.Common.{slice_get, Some, None, refl, ap, ◌∙◌, subst, arith}
use Rattle.std.specs.List.{AllByRecursion, enumerate_from, flat_map, list_any}
use Rattle.std.proofs.lemmas.List.{length-append}
use Rattle.std.proofs.lemmas.Option.{same_Some}
use Rattle.std.proofs.lemmas.Bool.{or_parts, or_left, or_right}
use Rattle.std.proofs.lemmas.List.Folds.{list_any-append}
use Rattle.mx_model.proofs.JoinLaws.{all-join, all-first, all-second}

pub all_each : {X : Type 0} (P : X → Type 0) (xs : List X) → ((x : X) → P x) → AllByRecursion P xs
all_each P [] f = tt
all_each P (x ∷ xs) f = (f x, all_each P xs f)

pub all_both : {X : Type 0} (P Q : X → Type 0) (xs : List X) → AllByRecursion P xs → AllByRecursion Q xs
    → AllByRecursion (λ x. P x × Q x) xs
all_both P Q [] h k = tt
all_both P Q (x ∷ xs) h k = ((h.0, k.0), all_both P Q xs h.1 k.1)

pub all_mapped : {X Y : Type 0} (f : X → Y) (P : Y → Type 0) (xs : List X) → AllByRecursion (λ x. P (f x)) xs → AllByRecursion P (map f xs)
all_mapped f P [] h = tt
all_mapped f P (x ∷ xs) h = (h.0, all_mapped f P xs h.1)

pub all_unmapped : {X Y : Type 0} (f : X → Y) (P : Y → Type 0) (xs : List X) → AllByRecursion P (map f xs)
    → AllByRecursion (λ x. P (f x)) xs
all_unmapped f P [] h = tt
all_unmapped f P (x ∷ xs) h = (h.0, all_unmapped f P xs h.1)

pub all_flat : {X Y : Type 0} (f : X → List Y) (P : Y → Type 0) (xs : List X) → AllByRecursion (λ x. AllByRecursion P (f x)) xs
    → AllByRecursion P (flat_map f xs)
all_flat f P [] h = tt
all_flat f P (x ∷ xs) h = all-join P (f x) (flat_map f xs) h.0 (all_flat f P xs h.1)

pub all_parts : {X Y : Type 0} (f : X → List Y) (P : Y → Type 0) (xs : List X) → AllByRecursion P (flat_map f xs)
    → AllByRecursion (λ x. AllByRecursion P (f x)) xs
all_parts f P [] h = tt
all_parts f P (x ∷ xs) h = (all-first P (f x) (flat_map f xs) h, all_parts f P xs (all-second P (f x) (flat_map f xs) h))

-- an element at a place
pub all_at : {X : Type 0} (P : X → Type 0) (xs : List X) (i : ℕ) (x : X) → AllByRecursion P xs → slice_get xs i ≡ Some x → P x
all_at P [] i x h e = absurd cc
all_at P (y ∷ xs) zero x h e = subst P (same_Some _ _ e) h.0
all_at P (y ∷ xs) (suc i) x h e = all_at P xs i x h.1 e

-- numbered elements
pub all_numbered : {X : Type 0} (P : ℕ × X → Type 0) (n : ℕ) (xs : List X) → ((i : ℕ) (x : X) → slice_get xs i ≡ Some x → P (n + i, x))
    → AllByRecursion P (enumerate_from n xs)
all_numbered P n [] f = tt
all_numbered P n (x ∷ xs) f =
    let here : n + 0 ≡ n = omega arith in (
      subst (λ k. P (k, x)) here (f 0 x refl),
      all_numbered P (n + 1) xs (λ i y e. let there : n + suc i ≡ n + 1 + i = omega arith in subst (λ k. P (k, y)) there (f (suc i) y e)),
    )

-- whether some element passes a test
pub any_none : {X : Type 0} (p : X → Bool) (xs : List X) → list_any p xs ≡ false → AllByRecursion (λ x. p x ≡ false) xs
any_none p [] h = tt
any_none p (x ∷ xs) h = let r = or_parts (p x) (list_any p xs) h in (r.0, any_none p xs r.1)

pub any_some : {X : Type 0} (p : X → Bool) (xs : List X) → list_any p xs ≡ true
    → (x : X) × (i : ℕ) × (slice_get xs i ≡ Some x) × (p x ≡ true)
any_some p [] h = absurd cc
any_some {X} p (x ∷ xs) h = elim (p x) as (λ b. p x ≡ b → (b || list_any p xs) ≡ true
    → (y : X) × (i : ℕ) × (slice_get (x ∷ xs) i ≡ Some y) × (p y ≡ true)) [
      | true ↦ λ e k. (x, 0, refl, e)
      | false ↦ λ e k. let r = any_some p xs k in (r.0, suc r.1, r.2, r.3)
    ] refl h

pub any_right : {X : Type 0} (p : X → Bool) (xs ys : List X) → list_any p ys ≡ true → list_any p (xs ++ ys) ≡ true
any_right p xs ys h = list_any-append p xs ys ∙ or_right (list_any p xs) (list_any p ys) h

pub any_left : {X : Type 0} (p : X → Bool) (xs ys : List X) → list_any p xs ≡ true → list_any p (xs ++ ys) ≡ true
any_left p xs ys h = list_any-append p xs ys ∙ or_left (list_any p xs) (list_any p ys) h

pub any_flat : {X Y : Type 0} (f : X → List Y) (p : Y → Bool) (xs : List X) (i : ℕ) (x : X) → slice_get xs i ≡ Some x
    → list_any p (f x) ≡ true → list_any p (flat_map f xs) ≡ true
any_flat f p [] i x e h = absurd cc
any_flat f p (y ∷ xs) zero x e h = any_left p (f y) (flat_map f xs) (ap (λ z. list_any p (f z)) (same_Some _ _ e) ∙ h)
any_flat f p (y ∷ xs) (suc i) x e h = any_right p (f y) (flat_map f xs) (any_flat f p xs i x e h)

pub find_none : {X : Type 0} (p : X → Bool) (xs : List X) → find p xs ≡ None → AllByRecursion (λ x. p x ≡ false) xs
find_none p [] h = tt
find_none {X} p (x ∷ xs) h = elim (p x) as (λ b. p x ≡ b → cond b (Some x) (find p xs) ≡ None
    → (p x ≡ false) × AllByRecursion (λ y. p y ≡ false) xs) [
      | true ↦ λ e k. absurd (let q : ⊥ = cc in q)
      | false ↦ λ e k. (e, find_none p xs k)
    ] refl h

-- how many elements there are
pub length-flat_at_most : {X Y : Type 0} (f : X → List Y) (most : ℕ) (xs : List X) → AllByRecursion (λ x. length (f x) ≤ most) xs
    → length (flat_map f xs) ≤ most * length xs
length-flat_at_most f most [] h = omega arith
length-flat_at_most f most (x ∷ xs) h =
    let here = h.0 in
    let rest = length-flat_at_most f most xs h.1 in
    let all : most * suc (length xs) ≡ most + most * length xs = mul-suc_of most (length xs) in
    omega (arith, length-append (f x) (flat_map f xs), here, rest, all)
  where
    mul-suc_of : (m n : ℕ) → m * suc n ≡ m + m * n
    mul-suc_of m n = omega arith

pub there : {X : Type 0} (xs : List X) (i : ℕ) → i < length xs → (x : X) × (slice_get xs i ≡ Some x)
there [] i lt = absurd (let q : ⊥ = omega (arith, lt) in q)
there (x ∷ xs) zero lt = (x, refl)
there (x ∷ xs) (suc i) lt = there xs i (omega (arith, lt))
