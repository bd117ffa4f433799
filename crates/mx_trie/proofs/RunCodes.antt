-- The codes of a line and its runs.
use Rattle.std.proofs.Common.{◌≡◌, ◌≢◌, ℕ, zero, suc, ◌+◌, ◌-◌, ◌*◌, ◌^◌, ◌<◌, ◌≤◌, List, [], ◌∷◌, length, drop, map, refl, arith}
use Rattle.std.proofs.Math.Nat.{pow-suc, pow-le-pow_right}
use Rattle.std.proofs.lemmas.Bool.{eqb-true}
use Rattle.std.proofs.lemmas.List.{drop_more, at_drop_all}
use Rattle.mx_words.specs.declared.perm.Perm.{Perm}
use Rattle.mx_words.specs.declared.perm.Perm.TheVariants as P
use Rattle.mx_words.specs.Rights.{number, same, perm_at}
use Rattle.mx_words.specs.Runs.{Run, runs_of, runs}
use Rattle.mx_words.specs.Reach.{mini_entry, starts_from}
use Rattle.mx_words.proofs.NumberLaws.{number-small}
use Rattle.mx_trie.specs.Codes.{value_code, start_step, start_code}

-- a number with these digits in base b, the first the lowest
abbrev horner : ℕ → List ℕ → ℕ
horner b [] = 0
horner b (x ∷ xs) = x + b * horner b xs

abbrev values : List (Run Perm) → List ℕ
values rs = map (λ (r : Run Perm). number r.value) rs

-- the starts of all runs but the first, which begins at place i
abbrev rest_starts : ℕ → List (Run Perm) → List ℕ
rest_starts i [] = []
rest_starts i (r ∷ rs) = starts_from (i + r.count) rs

-- the codes are those of the runs
pub value_code-is : (ps : List Perm) → value_code ps ≡ horner 4 (values (runs_of same ps))
unfolding value_code
value_code-is [] = refl
value_code-is (p ∷ ps) = rw (value_code-is ps) (grind (arith, eqb-true))

pub start_code-is : (i : ℕ) (ps : List Perm) → start_code i ps ≡ horner 16 (rest_starts i (runs_of same ps))
unfolding start_code
start_code-is i [] = refl
start_code-is i (p ∷ ps) = rw (start_code-is (i + 1) ps) (grind arith)

-- the packed entry of at most four runs, by their codes
pub mini-codes : (ps : List Perm) (left right : ℕ) → runs ps ≤ 4 →
    mini_entry (runs_of same ps) left right ≡ 2 + 4 * value_code ps + 1024 * start_code 0 ps + 4194304 * right + 134217728 * left
mini-codes ps left right few =
    grind (arith, value_code-is ps, start_code-is 0 ps, at_drop_all (λ (xs : List (Run Perm)). xs) (runs_of same ps) 4)

-- fewer words have no more runs
pub runs-drop : (i : ℕ) (ps : List Perm) → runs (drop i ps) ≤ runs ps
runs-drop zero ps = omega arith
runs-drop (suc i) ps = grind (arith, runs-drop i (drop 1 ps))

-- the last word
pub runs-last : (ps : List Perm) (i : ℕ) → i + 1 ≡ length ps → runs (drop i ps) ≡ 1
runs-last ps i last = grind (arith, drop_more ps i P.None, at_drop_all (λ (xs : List Perm). xs) ps (i + 1))

pub value_code-last : (ps : List Perm) (i : ℕ) → i + 1 ≡ length ps → value_code (drop i ps) ≡ number (perm_at ps i)
unfolding value_code
value_code-last ps i last = grind (arith, drop_more ps i P.None, at_drop_all (λ (xs : List Perm). xs) ps (i + 1))

pub start_code-last : (ps : List Perm) (i : ℕ) → i + 1 ≡ length ps → start_code i (drop i ps) ≡ 0
unfolding start_code
start_code-last ps i last = grind (arith, drop_more ps i P.None, at_drop_all (λ (xs : List Perm). xs) ps (i + 1))

-- one more word in front, which has the permission of the next word, or another one
pub runs-same : (ps : List Perm) (i j : ℕ) → i + 1 ≡ j → j < length ps → number (perm_at ps i) ≡ number (perm_at ps j) →
    runs (drop i ps) ≡ runs (drop j ps)
runs-same ps i j next more e = grind (arith, drop_more)

pub runs-other : (ps : List Perm) (i j : ℕ) → i + 1 ≡ j → j < length ps →
    number (perm_at ps i) ≢ number (perm_at ps j) →
    runs (drop i ps) ≡ runs (drop j ps) + 1
runs-other ps i j next more e = grind (arith, drop_more)

pub value_code-same : (ps : List Perm) (i j : ℕ) → i + 1 ≡ j → j < length ps →
    number (perm_at ps i) ≡ number (perm_at ps j) →
    value_code (drop i ps) ≡ value_code (drop j ps)
unfolding value_code
value_code-same ps i j next more e = grind (arith, drop_more)

pub value_code-other : (ps : List Perm) (i j : ℕ) → i + 1 ≡ j → j < length ps →
    number (perm_at ps i) ≢ number (perm_at ps j) →
    value_code (drop i ps) ≡ number (perm_at ps i) + 4 * value_code (drop j ps)
unfolding value_code
value_code-other ps i j next more e = grind (arith, drop_more)

pub start_code-same : (ps : List Perm) (i j : ℕ) → i + 1 ≡ j → j < length ps →
    number (perm_at ps i) ≡ number (perm_at ps j) →
    start_code i (drop i ps) ≡ start_code j (drop j ps)
unfolding start_code
start_code-same ps i j next more e = grind (arith, drop_more)

pub start_code-other : (ps : List Perm) (i j : ℕ) → i + 1 ≡ j → j < length ps →
    number (perm_at ps i) ≢ number (perm_at ps j) →
    start_code i (drop i ps) ≡ j + 16 * start_code j (drop j ps)
unfolding start_code
start_code-other ps i j next more e = grind (arith, drop_more)

-- the codes of few runs are small
values-below : (rs : List (Run Perm)) → horner 4 (values rs) < 4 ^ length rs
values-below [] = omega arith
values-below (r ∷ rs) = rw pow-suc (omega (arith, values-below rs, number-small))

pub value_code-below : (ps : List Perm) (n : ℕ) → runs ps ≤ n → value_code ps < 4 ^ n
value_code-below ps n few =
    omega (arith, value_code-is ps, values-below (runs_of same ps), pow-le-pow_right {n = 4} (omega arith) few)

below-step : (i : ℕ) (p : Perm) (ps : List Perm) (n : ℕ) → i + length (p ∷ ps) ≤ 16 → runs (p ∷ ps) ≤ n + 1 →
    ((k : ℕ) → runs ps ≤ k + 1 → start_code (i + 1) ps < 16 ^ k) →
    start_step p ps (i + 1) (start_code (i + 1) ps) < 16 ^ n
below-step i p ps n short few rest = grind (arith, rest n, rest (n - 1), pow-suc 16 (n - 1))

pub start_code-below : (i : ℕ) (ps : List Perm) (n : ℕ) → i + length ps ≤ 16 → runs ps ≤ n + 1 →
    start_code i ps < 16 ^ n
unfolding start_code
start_code-below i [] n short few = pow-le-pow_right {n = 16} (omega arith) {i = 0} {j = n} (omega arith)
start_code-below i (p ∷ ps) n short few =
    below-step i p ps n short few (λ k h. start_code-below (i + 1) ps k (omega arith) h)
