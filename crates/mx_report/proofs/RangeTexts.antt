-- Texts of the numbers of a range, one after another.
use Rattle.std.proofs.Common.{◌≡◌, ℕ, zero, suc, ◌+◌, ◌-◌, ◌<◌, ◌≤◌, List, [], ◌++◌, map, get_or, flat_map, sym, ap, ◌∙◌, arith}
use Rattle.std.proofs.Math.ListN.{get_or-map}
use Rattle.std.specs.List.{range_with_len}

-- numbers without a text
pub range_blank : (f : ℕ → List ℕ) (a k n : ℕ) → ((j : ℕ) → a ≤ j → j < a + k → f j ≡ [])
    → flat_map f (range_with_len a (k + n)) ≡ flat_map f (range_with_len (a + k) n)
range_blank f a zero n blank =
    let e : a ≡ a + 0 = omega arith in
    let none : 0 + n ≡ n = omega arith in
    ap (λ k. flat_map f (range_with_len a k)) none ∙ ap (λ j. flat_map f (range_with_len j n)) e
range_blank f a (suc k) n blank =
    let e : a + 1 + k ≡ a + suc k = omega arith in
    let more : suc k + n ≡ suc (k + n) = omega arith in
    ap (λ j. flat_map f (range_with_len a j)) more
    ∙ ap (λ xs. xs ++ flat_map f (range_with_len (a + 1) (k + n))) (blank a (omega arith) (omega arith))
    ∙ range_blank f (a + 1) k n (λ j lo hi. blank j (omega arith) (omega arith)) ∙ ap (λ j. flat_map f (range_with_len j n)) e

-- what is said of place i of a list, at the number i + 1
pub at_number : {X : Type 0} (f : X → List ℕ) (xs : List X) (i : ℕ) (d : X) → f d ≡ []
    → f (get_or xs i d) ≡ get_or (map f xs) (i + 1 - 1) []
at_number f xs i d e =
    let back : i ≡ i + 1 - 1 = omega arith in
    sym (get_or-map f xs i d) ∙ ap (get_or (map f xs) i) e ∙ ap (λ j. get_or (map f xs) j []) back

-- of n numbers, those from i on: one more than those after it, and none behind the last
pub one_less : (n i end : ℕ) → i < end → end ≡ n → n - i ≡ suc (n - (i + 1))
one_less n i end lt e = omega arith

pub none_left : (n i end : ℕ) → end ≤ i → end ≡ n → n - i ≡ 0
none_left n i end le e = omega arith
