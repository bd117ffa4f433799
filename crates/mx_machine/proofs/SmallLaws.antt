-- What is true of each of a list, element after element.
use Rattle.std.proofs.Common.{◌≡◌, ◌≢◌, ℕ, suc, ◌+◌, ◌<◌, ◌≤◌, ◌⊎◌, inl, inr, List, [], ◌∷◌, length, get_or, refl, sym, ap, subst, ◌∙◌}
use Rattle.std.proofs.Common.{arith, Option, Some, None}
use Rattle.std.specs.List.{AllByRecursion}
use Rattle.std.specs.Prelude.{slice_get}
use Rattle.std.proofs.lemmas.Bool.{cases_eq}
use Rattle.std.proofs.lemmas.Option.{slice_get-get_or, slice_get_within}

-- P of the first n
pub record AllFirst {X : Type 0} (P : X → Type 0) (n : ℕ) (xs : List X) : Type 0 where
  pub at : (i : ℕ) (x : X) → i < n → slice_get xs i ≡ Some x → P x

some-same : {X : Type 0} (o : Option X) (x y : X) → o ≡ Some x → o ≡ Some y → x ≡ y
some-same o x y e f = let both : Some x ≡ Some y = sym e ∙ f in cc

pub first-more : {X : Type 0} (P : X → Type 0) (xs : List X) (n : ℕ) (y : X) → AllFirst P n xs → slice_get xs n ≡ Some y → P y
    → AllFirst P (n + 1) xs
first-more P xs n y a there p = record { at = λ i x lt e. by i x lt e (cases_eq i n) }
  where
    by : (i : ℕ) (x : _) → i < n + 1 → slice_get xs i ≡ Some x → (i ≡ n) ⊎ (i ≢ n) → P x
    by i x lt e (inl same) = subst P (some-same (slice_get xs n) y x there (ap (slice_get xs) (sym same) ∙ e)) p
    by i x lt e (inr ne) = a.at i x (omega (arith, lt, ne)) e

pub first-past : {X : Type 0} (P : X → Type 0) (xs : List X) (n : ℕ) → AllFirst P n xs → slice_get xs n ≡ None → AllFirst P (n + 1) xs
first-past P xs n a past = record { at = λ i x lt e. by i x lt e (cases_eq i n) }
  where
    by : (i : ℕ) (x : _) → i < n + 1 → slice_get xs i ≡ Some x → (i ≡ n) ⊎ (i ≢ n) → P x
    by i x lt e (inl same) = let clash : None ≡ Some x = sym past ∙ ap (slice_get xs) (sym same) ∙ e in cc
    by i x lt e (inr ne) = a.at i x (omega (arith, lt, ne)) e

pub from-each : {X : Type 0} (P : X → Type 0) (xs : List X) → ((i : ℕ) (x : X) → slice_get xs i ≡ Some x → P x) → AllByRecursion P xs
from-each P [] h = tt
from-each P (x ∷ xs) h = (h 0 x refl, from-each P xs (λ i y e. h (suc i) y e))

pub first-all : {X : Type 0} (P : X → Type 0) (xs : List X) (n : ℕ) → length xs ≤ n → AllFirst P n xs → AllByRecursion P xs
first-all P xs n le a = from-each P xs (λ i x e. let lt = slice_get_within xs i x e in a.at i x (omega (arith, lt, le)) e)

-- an element that is there and one that isn't
pub get-there : {X : Type 0} (xs ys : List X) (i : ℕ) (x : X) → ys ≡ xs → i < length ys → x ≡ get_or ys i x → slice_get xs i ≡ Some x
get-there xs ys i x same lt e = ap (λ (zs : List _). slice_get zs i) (sym same) ∙ slice_get-get_or ys i x lt ∙ ap (λ y. Some y) (sym e)
