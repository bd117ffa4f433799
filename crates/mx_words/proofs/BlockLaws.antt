-- Blocks of a map by number: how many are broken, which are eighth-uniform, and which a change leaves alone.
use Rattle.std.proofs.Common.{◌≡◌, ◌≢◌, ℕ, zero, suc, ◌+◌, ◌*◌, ◌/◌, ◌<◌, ◌≤◌, ◌⊎◌, inl, inr, ◌==◌, ◌||◌, true, false, not, List, [], ◌∷◌}
use Rattle.std.proofs.Common.{length, drop, refl, sym, ap, ◌∙◌, arith, length-take, length-drop, eq-eqb}
use Rattle.std.specs.List.{list_all}
use Rattle.std.proofs.lemmas.Bool.{eqb-true, cases_lt, cases_eq, and_parts, or_cases, or_right}
use Rattle.std.proofs.lemmas.List.{get_or-take, get_or-drop, ext_get_or, get_or_past}
use Rattle.std.proofs.lemmas.Nat.{mul-add-lt}
use Rattle.mx_words.specs.declared.perm.Perm.{Perm}
use Rattle.mx_words.specs.declared.perm.Perm.TheVariants as P
use Rattle.mx_words.specs.Rights.{same, perm_at}
use Rattle.mx_words.specs.Counting.{count_below}
use Rattle.mx_words.specs.Runs.{is_uniform, is_eighth_uniform, broken_blocks, crowded_lines, is_crowded, pieces, line_words}
use Rattle.mx_words.proofs.RunLaws.{same_eq, same_from}
use Rattle.mx_words.specs.Blocks.{block_of, is_broken, IsUniform, IsEven}
use Rattle.mx_words.proofs.PieceLaws.{piece, count_pieces, all_pieces-at, all_pieces_are}

-- counts by block number, over any bound that takes in all of RAM
pub broken_blocks-count : (size : ℕ) (m : List Perm) (k : ℕ) → 0 < size → length m ≤ k * size →
    broken_blocks size m ≡ count_below k (is_broken size m)
broken_blocks-count size m k some within = count_pieces size (λ block. not (is_eighth_uniform size block)) some refl k m within

pub crowded_lines-count : (m : List Perm) (k : ℕ) → length m ≤ k * line_words
    → crowded_lines m ≡ count_below k (λ b. is_crowded (block_of line_words m b))
crowded_lines-count m k within = count_pieces line_words is_crowded (omega arith) refl k m within

-- a word of a block
pub block_of-at : (size : ℕ) (m : List Perm) (b k : ℕ) → k < size → perm_at (block_of size m b) k ≡ perm_at m (b * size + k)
block_of-at size m b k below = get_or-take size (drop (b * size) m) k P.None below ∙ get_or-drop (b * size) m k P.None

-- maps of one length that agree on a block have that block in common
pub block_of-same : (size : ℕ) (m n : List Perm) (b : ℕ) → length m ≡ length n →
    ((k : ℕ) → k < size → perm_at m (b * size + k) ≡ perm_at n (b * size + k)) → block_of size m b ≡ block_of size n b
block_of-same size m n b long agree =
    ext_get_or P.None (block_of size m b) (block_of size n b)
    (omega (
      arith,
      length-take size (drop (b * size) m),
      length-take size (drop (b * size) n),
      length-drop (b * size) m,
      length-drop
          (b * size) n,
    ))
    (λ i below.
    let inside : i < size = omega (arith, length-take size (drop (b * size) m)) in
    block_of-at size m b i inside ∙ agree i inside ∙ sym (block_of-at size n b i inside))

-- a permission that a whole list has
all_same-at : (p : Perm) (ps : List Perm) (k : ℕ) → list_all (same p) ps ≡ true → k < length ps → p ≡ perm_at ps k
all_same-at p [] k h below = absurd (omega arith)
all_same-at p (q ∷ qs) zero h below = same_eq p q (and_parts (same p q) (list_all (same p) qs) h).0
all_same-at p (q ∷ qs) (suc k) h below = all_same-at p qs k (and_parts (same p q) (list_all (same p) qs) h).1 (omega arith)

all_same_are : (p : Perm) (ps : List Perm) → ((k : ℕ) → k < length ps → p ≡ perm_at ps k) → list_all (same p) ps ≡ true
all_same_are p [] each = refl
all_same_are p (q ∷ qs) each =
    let first : same p q ≡ true = same_from p q (each 0 (omega arith)) in
    let rest : list_all (same p) qs ≡ true = all_same_are p qs (λ k below. each (suc k) (omega arith)) in
    rw (first, rest) refl

-- words that have one permission, by index: `size` words of which a list holds the first, the others having none
uniform_past : (p : Perm) (ps : List Perm) (size k : ℕ) → length ps ≤ k → suc k < size
    → (same p P.None ≡ true) ⊎ ((length ps + 1 == size) ≡ true) → perm_at ps k ≡ p
uniform_past p ps size k out below (inl h) = get_or_past ps k P.None out ∙ sym (same_eq p P.None h)
uniform_past p ps size k out below (inr h) = absurd (let full : length ps + 1 ≡ size = eqb-true (length ps + 1) size h in omega arith)

uniform_step : (size : ℕ) (p : Perm) (ps : List Perm) (k : ℕ) → is_uniform size (p ∷ ps) ≡ true → suc k < size
    → (k < length ps) ⊎ (length ps ≤ k) → perm_at ps k ≡ p
uniform_step size p ps k e below (inl h) =
    sym (all_same-at p ps k (and_parts (list_all (same p) ps) (same p P.None || (length ps + 1 == size)) e).0 h)
uniform_step size p ps k e below (inr h) =
    uniform_past p ps size k h below (or_cases (same p P.None) (length ps + 1 == size)
    (and_parts (list_all (same p) ps) (same p P.None || (length ps + 1 == size)) e).1)

pub uniform_from : (size : ℕ) (xs : List Perm) → is_uniform size xs ≡ true → (k : ℕ) → k < size → perm_at xs k ≡ perm_at xs 0
uniform_from size [] e k below = get_or_past [] k P.None (omega arith)
uniform_from size (p ∷ ps) e zero below = refl
uniform_from size (p ∷ ps) e (suc k) below = uniform_step size p ps k e below (cases_lt k (length ps))

pub uniform_is : (size : ℕ) (xs : List Perm) → length xs ≤ size → ((k : ℕ) → k < size → perm_at xs k ≡ perm_at xs 0)
    → is_uniform size xs ≡ true
uniform_is size [] short alike = refl
uniform_is size (p ∷ ps) short alike =
    let first : list_all (same p) ps ≡ true = all_same_are p ps (λ k below. sym (alike (suc k) (omega arith))) in
    rw first (full (cases_eq (length ps + 1) size))
  where
    full : (length ps + 1 ≡ size) ⊎ (length ps + 1 ≢ size) → (same p P.None || (length ps + 1 == size)) ≡ true
    full (inl h) = or_right (same p P.None) (length ps + 1 == size) (eq-eqb (length ps + 1) size h)
    full (inr h) =
        let none : p ≡ P.None = sym (alike (suc (length ps)) (omega arith)) ∙ get_or_past ps (length ps) P.None (omega arith) in
        rw (same_from p P.None none) refl

-- the words of a part of a block
part-at : (size part : ℕ) (m : List Perm) (b e k : ℕ) → size ≡ 8 * part → e < 8 → k < part →
    perm_at (piece part (block_of size m b) e) k ≡ perm_at m (b * size + e * part + k)
part-at size part m b e k eight below inside =
    let at : e * part + k < part * 8 = mul-add-lt e part k 8 below inside in
    let sum : b * size + (e * part + k) ≡ b * size + e * part + k = omega arith in
    get_or-take part (drop (e * part) (block_of size m b)) k P.None inside
    ∙ get_or-drop (e * part) (block_of size m b) k P.None
    ∙ block_of-at size m b (e * part + k) (omega arith)
    ∙ ap (perm_at m) sum

-- a block is eighth-uniform exactly where each of its parts has one permission
pub even_from : (size part : ℕ) (m : List Perm) (b : ℕ) → size / 8 ≡ part → size ≡ 8 * part → 0 < part →
    is_eighth_uniform size (block_of size m b) ≡ true → IsEven m (b * size) part
even_from size part m b is eight some h =
    let all : list_all (is_uniform part) (pieces part (block_of size m b)) ≡ true =
    ap (λ n. list_all (is_uniform n) (pieces n (block_of size m b))) (sym is) ∙ h in
    record {
      parts = λ e below. record {
        alike = λ k inside.
            let zero_more : b * size + e * part + 0 ≡ b * size + e * part = omega arith in
            sym (part-at size part m b e k eight below inside)
            ∙ uniform_from part (piece part (block_of size m b) e)
            (all_pieces-at part (is_uniform part) some refl e (block_of size m b) all) k inside
            ∙ part-at size part m b e 0 eight below some
            ∙ ap (perm_at m) zero_more;
      };
    }

pub even_is : (size part : ℕ) (m : List Perm) (b : ℕ) → size / 8 ≡ part → size ≡ 8 * part → 0 < part →
    IsEven m (b * size) part → is_eighth_uniform size (block_of size m b) ≡ true
even_is size part m b is eight some even =
    let short : length (block_of size m b) ≤ 8 * part = omega (arith, length-take size (drop (b * size) m)) in
    ap (λ n. list_all (is_uniform n) (pieces n (block_of size m b))) is
    ∙ all_pieces_are part (is_uniform part) some 8 (block_of size m b) short
    (λ e below.
    uniform_is part (piece part (block_of size m b) e) (omega (arith, length-take part (drop (e * part) (block_of size m b))))
    (λ k inside.
    let zero_more : b * size + e * part + 0 ≡ b * size + e * part = omega arith in
    part-at size part m b e k eight below inside
    ∙ (even.parts e below).alike k inside
    ∙ ap (perm_at m) (sym zero_more)
    ∙ sym (part-at size part m b e 0 eight below some)))

-- a block of which all words have one permission isn't broken
pub uniform-even : (m : List Perm) (first part : ℕ) → IsUniform m first (8 * part) → IsEven m first part
uniform-even m first part u = record {
  parts = λ e below. record {
    alike = λ k inside.
        let at : e * part + k < part * 8 = mul-add-lt e part k 8 below inside in
        let begin : e * part + 0 < part * 8 = mul-add-lt e part 0 8 below (omega arith) in
        let a : first + e * part + k ≡ first + (e * part + k) = omega arith in
        ap (perm_at m) a ∙ u.alike (e * part + k) (omega arith) ∙ sym (u.alike (e * part) (omega arith));
  };
}

pub whole-even : (size part : ℕ) (m : List Perm) (b : ℕ) → size / 8 ≡ part → size ≡ 8 * part → 0 < part →
    IsUniform m (b * size) size → is_broken size m b ≡ false
whole-even size part m b is eight some u =
    ap not (even_is size part m b is eight some (uniform-even m (b * size) part (record { alike = λ k below. u.alike k (omega arith) })))

-- whether two maps of one length break a block alike, where they agree on it
pub is_broken-same : (size : ℕ) (m n : List Perm) (b : ℕ) → length m ≡ length n →
    ((k : ℕ) → k < size → perm_at m (b * size + k) ≡ perm_at n (b * size + k)) → is_broken size m b ≡ is_broken size n b
is_broken-same size m n b long agree = ap (λ block. not (is_eighth_uniform size block)) (block_of-same size m n b long agree)
