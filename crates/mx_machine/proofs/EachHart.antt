-- Tests and edits of all harts of a state, from one equation a hart.
use Rattle.std.proofs.Common.{◌≡◌, ℕ, suc, ◌+◌, Bool, true, false, not, ◌&&◌, ◌||◌, List, [], ◌∷◌, length, get_or, refl, sym, ap, ◌∙◌}
use Rattle.std.proofs.Common.{arith}
use Rattle.std.specs.Prelude.{fold, filter_map, Option, Some, None}
use Rattle.std.specs.List.{list_all, list_any, enumerate_from, cons_option}
use Rattle.mx_words.specs.Caches.{Cache, without_range}
use Rattle.mx_words.specs.Counting.{all_below}
use Rattle.mx_machine.proofs.Hearing.{without_one, without_first}
use mathlib.Core.Bool.{and_assoc}

-- whether an option holds what passes
abbrev pub some_passes : {X : Type 0} → (X → Bool) → Option X → Bool
some_passes test None = false
some_passes test (Some x) = test x

below-more : (i n : ℕ) (test : ℕ → Bool) → all_below (i + suc n) test ≡ all_below ((i + 1) + n) test
below-more i n test = ap (λ k. all_below k test) (omega arith)

below-one : (i : ℕ) (test : ℕ → Bool) → all_below (i + 1) test ≡ (all_below i test && test i)
unfolding all_below
below-one i test = let e : i + 1 ≡ suc i = omega arith in ap (λ k. all_below k test) e

below-none : (i : ℕ) (test : ℕ → Bool) → all_below (i + 0) test ≡ (all_below i test && true)
below-none i test = search arith

-- an equation of each element from place i on, after the first
module _ {X Y : Type 0} (f : ℕ → X → Y) (g : ℕ → Y) (d : X) where
  behind-first : (i : ℕ) (x : X) (xs : List X) → ((j : ℕ) → f (i + j) (get_or (x ∷ xs) j d) ≡ g (i + j)) →
      (j : ℕ) → f ((i + 1) + j) (get_or xs j d) ≡ g ((i + 1) + j)
  behind-first i x xs e j =
      let n : (i + 1) + j ≡ i + suc j = omega arith in
      ap (λ k. f k (get_or xs j d)) n ∙ e (suc j) ∙ ap g (sym n)

  of-first : (i : ℕ) (x : X) (xs : List X) → ((j : ℕ) → f (i + j) (get_or (x ∷ xs) j d) ≡ g (i + j)) → f i x ≡ g i
  of-first i x xs e =
      let n : i ≡ i + 0 = omega arith in
      ap (λ k. f k x) n ∙ e 0 ∙ ap g (sym n)

-- all pass where those below their number do
module _ {X : Type 0} (test : ℕ × X → Bool) (low : ℕ → Bool) (d : X) where
  pub all-numbered : (i : ℕ) (xs : List X) → ((j : ℕ) → test (i + j, get_or xs j d) ≡ low (i + j)) →
      all_below (i + length xs) low ≡ (all_below i low && list_all test (enumerate_from i xs))
  all-numbered i [] e = below-none i low
  all-numbered i (x ∷ xs) e =
      below-more i (length xs) low
      ∙ all-numbered (i + 1) xs (behind-first (λ k y. test (k, y)) low d i x xs e)
      ∙ ap (λ b. b && list_all test (enumerate_from (i + 1) xs)) (below-one i low)
      ∙ ap (λ b. (all_below i low && b) && list_all test (enumerate_from (i + 1) xs)) (sym (of-first (λ k y. test (k, y)) low d i x xs e))
      ∙ and_assoc (all_below i low) (test (i, x)) (list_all test (enumerate_from (i + 1) xs))

any-option : {R : Type 0} (test : R → Bool) (o : Option R) (rs : List R)
    → list_any test (cons_option o rs) ≡ (some_passes test o || list_any test rs)
any-option test None rs = refl
any-option test (Some r) rs = refl

not-or : (a b c : Bool) → ((a && not b) && not c) ≡ (a && not (b || c))
not-or x b c = grind arith

-- none of those taken passes where none below their number does
module _ {X R : Type 0} (take : ℕ × X → Option R) (test : R → Bool) (low : ℕ → Bool) (d : X) where
  pub none-numbered : (i : ℕ) (xs : List X) → ((j : ℕ) → some_passes test (take (i + j, get_or xs j d)) ≡ low (i + j)) →
      all_below (i + length xs) (λ k. not (low k)) ≡ (all_below i (λ k. not (low k))
      && not (list_any test (filter_map take (enumerate_from i xs))))
  none-numbered i [] e = below-none i (λ k. not (low k))
  none-numbered i (x ∷ xs) e =
      let rest = list_any test (filter_map take (enumerate_from (i + 1) xs)) in
      let before = all_below i (λ k. not (low k)) in
      below-more i (length xs) (λ k. not (low k))
      ∙ none-numbered (i + 1) xs (behind-first (λ k y. some_passes test (take (k, y))) low d i x xs e)
      ∙ ap (λ b. b && not rest) (below-one i (λ k. not (low k)))
      ∙ ap (λ b. (before && not b) && not rest) (sym (of-first (λ k y. some_passes test (take (k, y))) low d i x xs e))
      ∙ not-or before (some_passes test (take (i, x))) rest
      ∙ ap (λ b. before && not b) (sym (any-option test (take (i, x)) (filter_map take (enumerate_from (i + 1) xs))))

-- the cache after all ranges taken, one after another
without-option : (o : Option (ℕ × ℕ)) (rs : List (ℕ × ℕ)) (c : Cache) →
    fold (λ cache (r : ℕ × ℕ). without_range r.0 r.1 cache) c (cons_option o rs)
    ≡ fold (λ cache (r : ℕ × ℕ). without_range r.0 r.1 cache) (without_one o c) rs
without-option None rs c = refl
without-option (Some r) rs c = refl

without-one : (range : ℕ → Option (ℕ × ℕ)) (i : ℕ) (c : Cache)
    → without_one (range i) (without_first range i c) ≡ without_first range (i + 1) c
without-one range i c = let e : suc i ≡ i + 1 = omega arith in ap (λ k. without_first range k c) e

module _ {X : Type 0} (take : ℕ × X → Option (ℕ × ℕ)) (range : ℕ → Option (ℕ × ℕ)) (d : X) (c : Cache) where
  pub without-numbered : (i : ℕ) (xs : List X) → ((j : ℕ) → take (i + j, get_or xs j d) ≡ range (i + j)) →
      fold (λ cache (r : ℕ × ℕ). without_range r.0 r.1 cache) (without_first range i c) (filter_map take (enumerate_from i xs))
      ≡ without_first range (i + length xs) c
  without-numbered i [] e = let n : i ≡ i + 0 = omega arith in ap (λ k. without_first range k c) n
  without-numbered i (x ∷ xs) e =
      let rest = filter_map take (enumerate_from (i + 1) xs) in
      let n : (i + 1) + length xs ≡ i + suc (length xs) = omega arith in
      without-option (take (i, x)) rest (without_first range i c)
      ∙ ap (λ o. fold (λ cache (r : ℕ × ℕ). without_range r.0 r.1 cache) (without_one o (without_first range i c)) rest)
      (of-first (λ k y. take (k, y)) range d i x xs e)
      ∙ ap (λ (a : Cache). fold (λ cache (r : ℕ × ℕ). without_range r.0 r.1 cache) a rest) (without-one range i c)
      ∙ without-numbered (i + 1) xs (behind-first (λ k y. take (k, y)) range d i x xs e)
      ∙ ap (λ k. without_first range k c) n
