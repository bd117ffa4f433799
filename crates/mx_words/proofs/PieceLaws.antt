-- A list in pieces, by the number of the piece.
use Rattle.std.proofs.Common.{◌≡◌, ℕ, zero, suc, ◌+◌, ◌-◌, ◌*◌, ◌<◌, ◌≤◌, Bool, true, false, List, [], ◌∷◌, length, take, drop, refl, sym}
use Rattle.std.proofs.Common.{ap, ◌∙◌, arith, length-drop, add-one}
use Rattle.std.proofs.lemmas.Bool.{and_from, and_parts}
use Rattle.std.proofs.Math.Nat.{suc-mul}
use Rattle.std.proofs.lemmas.List.{drop-drop}
use Rattle.std.proofs.lemmas.List.Sums.{sum_by-cons}
use Rattle.std.specs.List.{list_all, count_by}
use Rattle.mx_words.specs.Counting.{bit, count_below}
use Rattle.mx_words.specs.Runs.{pieces, pieces_from, in_first}
use Rattle.mx_words.proofs.CountingLaws.{count_below-zero, count_below_first, count_below_agree, count_below_none}

-- the first piece, where `left` elements may follow the first one, and the pieces of the rest
pieces_from-first : {A : Type 0} (size left : ℕ) (x : A) (xs : List A) →
    pieces_from size left (x ∷ xs) ≡ take (suc left) (x ∷ xs) ∷ pieces_from size (size - 1) (drop (suc left) (x ∷ xs))
pieces_from-first size zero x xs = refl
pieces_from-first size (suc left) x [] = refl
pieces_from-first size (suc left) x (y ∷ ys) = ap (in_first x) (pieces_from-first size left y ys)

-- the first piece, and the pieces of the rest
pub pieces-first : {A : Type 0} (size : ℕ) (x : A) (xs : List A) → 0 < size →
    pieces size (x ∷ xs) ≡ take size (x ∷ xs) ∷ pieces size (drop size (x ∷ xs))
pieces-first zero x xs some = absurd (omega arith)
pieces-first (suc n) x xs some =
    let e : suc n - 1 ≡ n = omega arith in
    pieces_from-first (suc n) (suc n - 1) x xs
    ∙ ap (λ k. take (suc k) (x ∷ xs) ∷ pieces_from (suc n) (suc n - 1) (drop (suc k) (x ∷ xs))) e

-- piece j begins with element j * size
abbrev pub piece : {A : Type 0} → ℕ → List A → ℕ → List A
piece size xs j = take size (drop (j * size) xs)

piece-next : {A : Type 0} (size : ℕ) (xs : List A) (j : ℕ) → piece size (drop size xs) j ≡ piece size xs (suc j)
piece-next size xs j =
    let e : size + j * size ≡ suc j * size = omega (arith, suc-mul j size) in
    ap (take size) (drop-drop (j * size) size xs ∙ ap (λ n. drop n xs) e)

piece-zero : {A : Type 0} (size : ℕ) (xs : List A) → piece size xs 0 ≡ take size xs
piece-zero size xs = let e : 0 * size ≡ 0 = omega arith in ap (λ n. take size (drop n xs)) e

-- an empty list's pieces are empty
drop-none : {A : Type 0} (n : ℕ) → drop {A = A} n [] ≡ []
drop-none zero = refl
drop-none (suc n) = refl

take-none : {A : Type 0} (n : ℕ) → take {A = A} n [] ≡ []
take-none zero = refl
take-none (suc n) = refl

pub piece-none : {A : Type 0} (size j : ℕ) → piece {A = A} size [] j ≡ []
piece-none {A} size j = ap (take {A = A} size) (drop-none (j * size)) ∙ take-none size

rest-short : {A : Type 0} (size k : ℕ) (xs : List A) → length xs ≤ suc k * size → length (drop size xs) ≤ k * size
rest-short size k xs short = omega (arith, suc-mul k size, length-drop size xs)

-- how many pieces pass a test that an empty piece fails
pub count_pieces : {A : Type 0} (size : ℕ) (f : List A → Bool) → 0 < size → f [] ≡ false → (k : ℕ) (xs : List A) → length xs ≤ k * size →
    count_by f (pieces size xs) ≡ count_below k (λ j. f (piece size xs j))
count_pieces size f some none zero [] short = sym (count_below-zero (λ j. f (piece size [] j)))
count_pieces size f some none zero (x ∷ xs) short = absurd (omega arith)
count_pieces size f some none (suc k) [] short =
    sym (count_below_none (suc k) (λ j. f (piece size [] j)) (λ j below. ap f (piece-none size j) ∙ none))
count_pieces size f some none (suc k) (x ∷ xs) short =
    let rest = count_pieces size f some none k (drop size (x ∷ xs)) (rest-short size k (x ∷ xs) short) in
    let first : count_by f (pieces size (x ∷ xs)) ≡ bit (f (take size (x ∷ xs))) + count_by f (pieces size (drop size (x ∷ xs))) =
    ap (count_by f) (pieces-first size x xs some) ∙ sum_by-cons (λ ys. bit (f ys)) (take size (x ∷ xs)) (pieces size (drop size (x ∷ xs)))
    in
    let here : bit (f (piece size (x ∷ xs) 0)) ≡ bit (f (take size (x ∷ xs))) = ap (λ ys. bit (f ys)) (piece-zero size (x ∷ xs)) in
    let shift : count_below k (λ j. f (piece size (drop size (x ∷ xs)) j)) ≡ count_below k (λ j. f (piece size (x ∷ xs) (j + 1))) =
    count_below_agree k (λ j. f (piece size (drop size (x ∷ xs)) j)) (λ j. f (piece size (x ∷ xs) (j + 1)))
    (λ j below. rw add-one (ap f (piece-next size (x ∷ xs) j))) in
    let whole = count_below_first k (λ j. f (piece size (x ∷ xs) j)) in
    let w : count_below (suc k) (λ j. f (piece size (x ∷ xs) j)) ≡ bit (f (piece size (x ∷ xs) 0))
    + count_below k (λ j. f (piece size (x ∷ xs) (j + 1))) =
    rw add-one at whole in
    omega (arith, rest, first, here, shift, w)

-- all pieces pass a test that an empty piece passes
pub all_pieces-at : {A : Type 0} (size : ℕ) (f : List A → Bool) → 0 < size → f [] ≡ true → (j : ℕ) (xs : List A) →
    list_all f (pieces size xs) ≡ true → f (piece size xs j) ≡ true
all_pieces-at size f some none j [] all = ap f (piece-none size j) ∙ none
all_pieces-at size f some none zero (x ∷ xs) all =
    ap f (piece-zero size (x ∷ xs))
    ∙ (and_parts (f (take size (x ∷ xs))) (list_all f (pieces size (drop size (x ∷ xs))))
    (ap (list_all f) (sym (pieces-first size x xs some)) ∙ all)).0
all_pieces-at size f some none (suc j) (x ∷ xs) all =
    ap f (sym (piece-next size (x ∷ xs) j))
    ∙ all_pieces-at size f some none j (drop size (x ∷ xs))
    (and_parts (f (take size (x ∷ xs))) (list_all f (pieces size (drop size (x ∷ xs)))) (ap (list_all f) (sym (pieces-first size x xs some))
    ∙ all)).1

pub all_pieces_are : {A : Type 0} (size : ℕ) (f : List A → Bool) → 0 < size → (k : ℕ) (xs : List A) → length xs ≤ k * size →
    ((j : ℕ) → j < k → f (piece size xs j) ≡ true) → list_all f (pieces size xs) ≡ true
all_pieces_are size f some k [] short each = refl
all_pieces_are size f some zero (x ∷ xs) short each = absurd (omega arith)
all_pieces_are size f some (suc k) (x ∷ xs) short each =
    ap (list_all f) (pieces-first size x xs some)
    ∙ and_from (f (take size (x ∷ xs))) (list_all f (pieces size (drop size (x ∷ xs))))
    (ap f (sym (piece-zero size (x ∷ xs))) ∙ each 0 (omega arith))
    (all_pieces_are size f some k (drop size (x ∷ xs)) (rest-short size k (x ∷ xs) short)
    (λ j below. ap f (piece-next size (x ∷ xs) j) ∙ each (suc j) (omega arith)))
