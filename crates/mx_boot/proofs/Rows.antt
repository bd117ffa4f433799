-- The first of the rows of elements, one by one.
use Rattle.std.proofs.Common.{◌≡◌, ℕ, zero, suc, ◌+◌, ◌≤◌, List, [], ◌∷◌, ◌++◌, length, take, drop, map, slice_get, Option, Some, None}
use Rattle.std.proofs.Common.{option_map, refl, ap, ◌∙◌, sym, subst, arith, append_assoc, Bool, true, false}
use Rattle.std.specs.List.{enumerate_from, flat_map}
use Rattle.std.specs.Option.{option_or}
use Rattle.std.proofs.lemmas.List.{take_more, append-nil, map-append, drop_all}
use Rattle.std.proofs.lemmas.Grind.{flat_map-append}
use Rattle.std.proofs.lemmas.Option.{same_Some, slice_get-map, slice_get_within, get_or_from_slice_get}
use Rattle.mx_words.specs.FirstRow.{Row, first_row}
use Rattle.mx_words.proofs.ElementLaws.{drop_at}
use Rattle.mx_words.proofs.FirstRowLaws.{first_row-append}

-- the elements before a place and the element there
pub take_at : {A : Type 0} (xs : List A) (i : ℕ) (x : A) → slice_get xs i ≡ Some x → take (i + 1) xs ≡ take i xs ++ x ∷ []
take_at xs i x e = take_more xs i x (slice_get_within xs i x e) ∙ ap (λ z. take i xs ++ z ∷ []) (get_or_from_slice_get xs i x x e)

-- the first of the rows of the elements from a place on
abbrev pub first_from : {A B : Type 0} → (A → List (Row B)) → ℕ → List A → Option B
first_from rows i xs = first_row (flat_map rows (drop i xs))

at_from : {A B : Type 0} (rows : A → List (Row B)) (xs : List A) (i : ℕ) (x : A) → slice_get xs i ≡ Some x
    → first_from rows i xs ≡ option_or (first_row (rows x)) (first_from rows (i + 1) xs)
at_from rows xs i x at = ap (λ ys. first_row (flat_map rows ys)) (drop_at xs i x at) ∙ first_row-append (rows x) _

pub first_next : {A B : Type 0} (rows : A → List (Row B)) (xs : List A) (i : ℕ) (x : A) → slice_get xs i ≡ Some x
    → first_row (rows x) ≡ None
    → first_from rows (i + 1) xs ≡ first_from rows i xs
first_next rows xs i x at none = sym (at_from rows xs i x at ∙ ap (λ o. option_or o (first_from rows (i + 1) xs)) none)

pub first_here : {A B : Type 0} (rows : A → List (Row B)) (xs : List A) (i : ℕ) (x : A) (fault : B) → slice_get xs i ≡ Some x
    → first_row (rows x) ≡ Some fault
    → first_from rows i xs ≡ Some fault
first_here rows xs i x fault at some = at_from rows xs i x at ∙ ap (λ o. option_or o (first_from rows (i + 1) xs)) some

pub first_end : {A B : Type 0} (rows : A → List (Row B)) (xs : List A) (i : ℕ) → length xs ≤ i → first_from rows i xs ≡ None
first_end rows xs i past = ap (λ ys. first_row (flat_map rows ys)) (drop_all i xs past)

-- an element of a numbered list
pub at_numbered : {A : Type 0} (xs : List A) (n i : ℕ) (x : A) → slice_get xs i ≡ Some x
    → slice_get (enumerate_from n xs) i ≡ Some (n + i, x)
at_numbered [] n i x e = cc
at_numbered (y ∷ xs) n zero x e =
    subst (λ k. slice_get (enumerate_from n (y ∷ xs)) 0 ≡ Some (k, x)) (let same : n ≡ n + 0 = omega arith in same)
    (ap (λ z. Some (n, z)) (same_Some _ _ e))
at_numbered (y ∷ xs) n (suc i) x e =
    subst (λ k. slice_get (enumerate_from (n + 1) xs) i ≡ Some (k, x)) (let same : n + 1 + i ≡ n + suc i = omega arith in same)
    (at_numbered xs (n + 1) i x e)

pub at_mapped : {A B : Type 0} (f : A → B) (xs : List A) (i : ℕ) (x : A) → slice_get xs i ≡ Some x → slice_get (map f xs) i ≡ Some (f x)
at_mapped f xs i x e = slice_get-map f xs i ∙ ap (option_map f) e

pub at_counted : {A : Type 0} (xs : List A) (i : ℕ) (x : A) → slice_get xs i ≡ Some x → slice_get (enumerate_from 0 xs) i ≡ Some (i, x)
at_counted xs i x e = subst (λ k. slice_get (enumerate_from 0 xs) i ≡ Some (k, x)) (let same : 0 + i ≡ i = omega arith in same)
    (at_numbered xs 0 i x e)

-- one row
pub one_applies : {B : Type 0} (test : Bool) (fault : B) → test ≡ true → first_row ((test, fault) ∷ []) ≡ Some fault
one_applies test fault h = rw h refl

pub one_fails : {B : Type 0} (test : Bool) (fault : B) → test ≡ false → first_row ((test, fault) ∷ []) ≡ None
one_fails test fault h = rw h refl

-- a list that grows by what each element of another gives
pub grown_by_one : {A B : Type 0} (f : A → B) (xs : List A) (k : ℕ) (x : A) (old items new : List B) (y : B) → slice_get xs k ≡ Some x
    → items ≡ old ++ map f (take k xs) → y ≡ f x → new ≡ items ++ y ∷ [] → new ≡ old ++ map f (take (k + 1) xs)
grown_by_one f xs k x old items new y at so_far is push =
    push ∙ ap (λ z. items ++ z ∷ []) is ∙ ap (λ e. e ++ f x ∷ []) so_far ∙ append_assoc old (map f (take k xs)) (f x ∷ [])
    ∙ ap (λ e. old ++ e) (sym (map-append f (take k xs) (x ∷ []))) ∙ ap (λ e. old ++ map f e) (sym (take_at xs k x at))

pub grown_by_some : {A B : Type 0} (f : A → List B) (xs : List A) (k : ℕ) (x : A) (items new : List B) → slice_get xs k ≡ Some x
    → items ≡ flat_map f (take k xs) → new ≡ items ++ f x → new ≡ flat_map f (take (k + 1) xs)
grown_by_some f xs k x items new at so_far push =
    push ∙ ap (λ e. e ++ f x) so_far ∙ ap (λ e. flat_map f (take k xs) ++ e) (sym (append-nil (f x)))
    ∙ sym (flat_map-append f (take k xs) (x ∷ [])) ∙ ap (flat_map f) (sym (take_at xs k x at))
