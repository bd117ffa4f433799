-- Laws on values laid over lists, by index; and the maps of appended grants and gives.
use Rattle.std.proofs.Common.{◌≡◌, ℕ, zero, suc, ◌+◌, ◌<◌, ◌≤◌, true, false, cond, List, [], ◌∷◌, ◌++◌, length, get_or, replicate, refl}
use Rattle.std.proofs.Common.{sym, ◌∙◌, ap, arith, inl, inr}
use Rattle.std.specs.List.{range_with_len}
use Rattle.std.specs.Prelude.{map as list_map}
use Rattle.std.proofs.lemmas.Bool.{cases_lt}
use Rattle.std.proofs.lemmas.Bool.Decides.{nat_tests}
use Rattle.std.proofs.lemmas.List.{same_lists, get_or_past}
use Rattle.std.proofs.lemmas.List.FromFn.{length-map-range_with_len, get_or-map-range_with_len}
use Rattle.std.proofs.lemmas.List.Sums.{fold_push}
use Rattle.mx_words.specs.declared.perm.Perm.{Perm}
use Rattle.mx_words.specs.declared.perm.Perm.TheVariants as P
use Rattle.mx_words.specs.Ranges.{covers}
use Rattle.mx_words.specs.Newest.{Laid, Grant, Give, laid_at, newest, at, owner, map, owners, laid_from, laid}

-- which words a range covers
pub covers_in : (first count w : ℕ) → first ≤ w → w < first + count → covers first count w ≡ true
covers_in first count w le lt = grind (arith, nat_tests)

pub covers_below : (first count w : ℕ) → w < first → covers first count w ≡ false
covers_below first count w lt = grind (arith, nat_tests)

pub covers_behind : (first count w : ℕ) → first + count ≤ w → covers first count w ≡ false
covers_behind first count w le = grind (arith, nat_tests)

pub covers_from : (first count w : ℕ) → covers first count w ≡ true → (first ≤ w) × (w < first + count)
covers_from first count w e = grind (arith, nat_tests)

-- the laid value inside, the older one elsewhere
pub laid_at_in : {A : Type 0} (i : ℕ) (older : A) (e : Laid A) → e.first ≤ i → i < e.first + e.count → laid_at i older e ≡ e.value
laid_at_in i older e le lt = ap (λ b. cond b e.value older) (covers_in e.first e.count i le lt)

pub laid_at_below : {A : Type 0} (i : ℕ) (older : A) (e : Laid A) → i < e.first → laid_at i older e ≡ older
laid_at_below i older e lt = ap (λ b. cond b e.value older) (covers_below e.first e.count i lt)

pub laid_at_behind : {A : Type 0} (i : ℕ) (older : A) (e : Laid A) → e.first + e.count ≤ i → laid_at i older e ≡ older
laid_at_behind i older e le = ap (λ b. cond b e.value older) (covers_behind e.first e.count i le)

-- a list with a value laid over it
pub length-laid_from : {A : Type 0} (n : ℕ) (e : Laid A) (xs : List A) → length (laid_from n e xs) ≡ length xs
length-laid_from n e [] = refl
length-laid_from n e (x ∷ xs) = ap suc (length-laid_from (n + 1) e xs)

pub length-laid : {A : Type 0} (e : Laid A) (xs : List A) → length (laid e xs) ≡ length xs
length-laid e xs = length-laid_from 0 e xs

laid_from-at : {A : Type 0} (n i j : ℕ) (e : Laid A) (xs : List A) (d : A) → i < length xs → n + i ≡ j
    → get_or (laid_from n e xs) i d ≡ laid_at j (get_or xs i d) e
laid_from-at n i j e [] d lt sum = absurd (omega arith)
laid_from-at n zero j e (x ∷ xs) d lt sum = let same : n ≡ j = omega arith in ap (λ k. laid_at k x e) same
laid_from-at n (suc i) j e (x ∷ xs) d lt sum = laid_from-at (n + 1) i j e xs d (omega arith) (omega arith)

pub laid-at : {A : Type 0} (e : Laid A) (xs : List A) (i : ℕ) (d : A) → i < length xs → get_or (laid e xs) i d ≡ laid_at i (get_or xs i d) e
laid-at e xs i d lt = laid_from-at 0 i i e xs d lt (omega arith)

pub laid_in : {A : Type 0} (e : Laid A) (xs : List A) (i : ℕ) (d : A) → i < length xs → e.first ≤ i → i < e.first + e.count
    → get_or (laid e xs) i d ≡ e.value
laid_in e xs i d lt from to = laid-at e xs i d lt ∙ laid_at_in i (get_or xs i d) e from to

pub laid_below : {A : Type 0} (e : Laid A) (xs : List A) (i : ℕ) (d : A) → i < e.first → get_or (laid e xs) i d ≡ get_or xs i d
laid_below e xs i d lt = elim (cases_lt i (length xs)) [
  | inl h ↦ laid-at e xs i d h ∙ laid_at_below i (get_or xs i d) e lt
  | inr h ↦ (let past : length (laid e xs) ≤ i = omega (arith, length-laid e xs) in
      get_or_past (laid e xs) i d past ∙ sym (get_or_past xs i d h))
]

pub laid_behind : {A : Type 0} (e : Laid A) (xs : List A) (i : ℕ) (d : A) → e.first + e.count ≤ i → get_or (laid e xs) i d ≡ get_or xs i d
laid_behind e xs i d le = elim (cases_lt i (length xs)) [
  | inl h ↦ laid-at e xs i d h ∙ laid_at_behind i (get_or xs i d) e le
  | inr h ↦ (let past : length (laid e xs) ≤ i = omega (arith, length-laid e xs) in
      get_or_past (laid e xs) i d past ∙ sym (get_or_past xs i d h))
]

-- a list that has these values is the laid one
pub laid_is : {A : Type 0} (e : Laid A) (xs ys : List A) → length ys ≡ length xs
    → ((i : ℕ) (d : A) → i < length xs → get_or ys i d ≡ laid_at i (get_or xs i d) e) → ys ≡ laid e xs
laid_is e xs ys len each = same_lists ys (laid e xs) (len ∙ sym (length-laid e xs))
    (λ i d lt. let below : i < length xs = omega (arith, len) in each i d below ∙ sym (laid-at e xs i d below))

-- maps and owners by index
pub newest-append : {A : Type 0} (d : A) (es : List (Laid A)) (e : Laid A) (i : ℕ) → newest d (es ++ e ∷ []) i ≡ laid_at i (newest d es i) e
newest-append d es e i = fold_push (laid_at i) d es e

pub length-map_of : (gs : List Grant) (words : ℕ) → length (map gs words) ≡ words
length-map_of gs words = length-map-range_with_len (at gs) 0 words

pub map-at : (gs : List Grant) (words i : ℕ) (d : Perm) → i < words → get_or (map gs words) i d ≡ at gs i
map-at gs words i d lt = get_or-map-range_with_len (at gs) 0 words i i d lt (omega arith)

pub length-owners : (gs : List Give) (words : ℕ) → length (owners gs words) ≡ words
length-owners gs words = length-map-range_with_len (owner gs) 0 words

pub owners-at : (gs : List Give) (words i d : ℕ) → i < words → get_or (owners gs words) i d ≡ owner gs i
owners-at gs words i d lt = get_or-map-range_with_len (owner gs) 0 words i i d lt (omega arith)

-- one more grant, or give, is laid over what the earlier ones gave
pub map-append : (gs : List Grant) (g : Grant) (words : ℕ) → map (gs ++ g ∷ []) words ≡ laid g (map gs words)
map-append gs g words = laid_is g (map gs words) (map (gs ++ g ∷ []) words) (length-map_of (gs ++ g ∷ []) words
    ∙ sym (length-map_of gs words))
    (λ i d lt. let below : i < words = omega (arith, length-map_of gs words) in
    map-at (gs ++ g ∷ []) words i d below ∙ newest-append P.None gs g i ∙ ap (λ p. laid_at i p g) (sym (map-at gs words i d below)))

pub owners-append : (gs : List Give) (g : Give) (words : ℕ) → owners (gs ++ g ∷ []) words ≡ laid g (owners gs words)
owners-append gs g words = laid_is g (owners gs words) (owners (gs ++ g ∷ []) words) (length-owners (gs ++ g ∷ []) words
    ∙ sym (length-owners gs words))
    (λ i d lt. let below : i < words = omega (arith, length-owners gs words) in
    owners-at (gs ++ g ∷ []) words i d below ∙ newest-append 0 gs g i ∙ ap (λ p. laid_at i p g) (sym (owners-at gs words i d below)))

-- nothing is given yet
none_from : (n words : ℕ) → list_map (owner []) (range_with_len n words) ≡ replicate words 0
none_from n zero = refl
none_from n (suc words) = ap (λ os. 0 ∷ os) (none_from (n + 1) words)

pub none-given : (words : ℕ) → owners [] words ≡ replicate words 0
none-given words = none_from 0 words
