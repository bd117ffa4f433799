-- Lengths of runs from tests of the words, one by one.
use Rattle.std.proofs.Common.{◌≡◌, ℕ, ◌+◌, ◌-◌, ◌<◌, ◌≤◌, ◌⊎◌, inl, inr, true, false, min, List, length, get_or, drop, slice_range, sym}
use Rattle.std.proofs.Common.{◌∙◌, ap, arith, length-take, length-drop}
use denote.Enum.Bare.{sameb}
use Rattle.std.proofs.lemmas.Bool.{cases_lt}
use Rattle.std.specs.List.{prefix_len, suffix_len}
use Rattle.std.proofs.lemmas.List.Sums.{prefix_len_is, suffix_len_is}
use Rattle.mx_words.specs.declared.perm.Perm.{Perm}
use Rattle.mx_words.specs.declared.perm.Perm.TheVariants as P
use Rattle.mx_words.specs.Rights.{same, perm_at}
use Rattle.mx_words.specs.contracts.perm.Perm.{the_type}
use Rattle.mx_words.proofs.RunLaws.{slice-at, length-slice}

-- whether permissions are the same, told by a test of the two
pub same_is : (p q : Perm) → sameb the_type p q ≡ same p q
same_is p q = grind arith

-- the last `count` words before `end` have a permission, and the one before them, where it isn't before `low`, has another one
pub alike_before_is : (m : List Perm) (p : Perm) (low end count : ℕ) → end ≤ length m → low + count ≤ end →
    ((k : ℕ) → end ≤ k + count → k < end → same p (perm_at m k) ≡ true) →
    (low + count < end → same p (perm_at m (end - count - 1)) ≡ false) → count ≡ suffix_len (same p) (slice_range m low end)
alike_before_is m p low end count fits few alike stop =
    let len = length-slice m low end fits in
    let passes : (k : ℕ) → end - count - low ≤ k → k < length (slice_range m low end)
    → same p (get_or (slice_range m low end) k P.None) ≡ true =
    λ k le lt. ap (same p) (slice-at m low end k (omega (arith, len))) ∙ alike (low + k) (omega (arith, len)) (omega (arith, len)) in
    let stops : 0 < end - count - low → same p (get_or (slice_range m low end) (end - count - low - 1) P.None) ≡ false =
    λ lt. let e : low + (end - count - low - 1) ≡ end - count - 1 = omega arith in
    ap (same p) (slice-at m low end (end - count - low - 1) (omega arith) ∙ ap (perm_at m) e) ∙ stop (omega arith) in
    let whole = suffix_len_is (same p) (slice_range m low end) (end - count - low) P.None (omega (arith, len)) passes stops in
    omega (arith, whole, len)

-- the words from `first` up to `word` have a permission, and word `word`, where it lies before `high` and in RAM, has another one
pub alike_from_is : (m : List Perm) (p : Perm) (first high word : ℕ) → first ≤ word → (first < word → word ≤ high)
    → (first < word → word ≤ length m) →
    ((k : ℕ) → first ≤ k → k < word → same p (perm_at m k) ≡ true) →
    (word < high → word < length m → same p (perm_at m word) ≡ false) → word - first ≡ prefix_len (same p) (slice_range m first high)
alike_from_is m p first high word from most inside alike stop =
    let len : length (slice_range m first high) ≡ min (high - first) (length m - first) =
    omega (arith, length-take (high - first) (drop first m), length-drop first m) in
    let passes : (k : ℕ) → k < word - first → same p (get_or (slice_range m first high) k P.None) ≡ true =
    λ k lt. ap (same p) (slice-at m first high k (let below = most (omega arith) in omega arith))
    ∙ alike (first + k) (omega arith) (omega arith) in
    let stops : word - first < length (slice_range m first high)
    → same p (get_or (slice_range m first high) (word - first) P.None) ≡ false =
    λ lt. let e : first + (word - first) ≡ word = omega arith in
    ap (same p) (slice-at m first high (word - first) (omega (arith, len)) ∙ ap (perm_at m) e)
    ∙ stop (omega (arith, len)) (omega (arith, len)) in
    sym (prefix_len_is (same p) (slice_range m first high) (word - first) P.None (short (cases_lt first word) len) passes stops)
  where
    short : (first < word) ⊎ (word ≤ first) → length (slice_range m first high) ≡ min (high - first) (length m - first)
        → word - first ≤ length (slice_range m first high)
    short (inl h) len = let a = most h in let b = inside h in omega (arith, len)
    short (inr h) len = omega arith
