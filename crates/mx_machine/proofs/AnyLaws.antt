-- Tests of the elements of a list, one after another.
use Rattle.std.proofs.Common.{◌≡◌, ℕ, ◌+◌, ◌<◌, ◌≤◌, Bool, true, false, List, length, get_or, take, sym, ap, ◌∙◌, arith, length-take}
use Rattle.std.specs.List.{list_all, list_any}
use Rattle.std.proofs.lemmas.List.Folds.{list_any_more, list_all_more}
use Rattle.std.proofs.lemmas.Bool.{and_from, or_from}
use Rattle.std.proofs.lemmas.List.{take_all}

-- none of the elements before a place passes, and neither does the one there
pub any-next : {X : Type 0} (f : X → Bool) (xs : List X) (i : ℕ) (d : X) → i < length xs → list_any f (take i xs) ≡ false
    → f (get_or xs i d) ≡ false →
    list_any f (take (i + 1) xs) ≡ false
any-next f xs i d l e n = list_any_more f xs i d l ∙ or_from (list_any f (take i xs)) (f (get_or xs i d)) e n

-- none of all elements passes
pub any-none : {X : Type 0} (f : X → Bool) (xs : List X) (i : ℕ) → length xs ≤ i → list_any f (take i xs) ≡ false → list_any f xs ≡ false
any-none f xs i l e = ap (list_any f) (sym (take_all i xs l)) ∙ e

-- the same for a test that all elements pass
pub all-next : {X : Type 0} (f : X → Bool) (xs : List X) (i : ℕ) (d : X) → i < length xs → list_all f (take i xs) ≡ true
    → f (get_or xs i d) ≡ true →
    list_all f (take (i + 1) xs) ≡ true
all-next f xs i d l e n = list_all_more f xs i d l ∙ and_from (list_all f (take i xs)) (f (get_or xs i d)) e n

pub all-pass : {X : Type 0} (f : X → Bool) (xs : List X) (i : ℕ) → length xs ≤ i → list_all f (take i xs) ≡ true → list_all f xs ≡ true
all-pass f xs i l e = ap (list_all f) (sym (take_all i xs l)) ∙ e

-- how many the first elements are
pub taken-count : {X : Type 0} (n : ℕ) (items xs : List X) → take n items ≡ xs → length items ≡ 4 → n ≤ 4 → length xs ≡ n
taken-count n items xs e four few = omega (arith, ap length e, length-take n items)
