-- Whether blocks have one permission, from tests of the words one by one.
use Rattle.std.proofs.Common.{◌≡◌, ◌≢◌, ℕ, suc, ◌+◌, ◌-◌, ◌*◌, ◌/◌, ◌%◌, ◌<◌, ◌≤◌, ◌⊎◌, inl, inr, ◌↔◌, IsTrue, Bool, true, false, List}
use Rattle.std.proofs.Common.{length, take, drop, replicate, refl, sym, ◌∙◌, ap, arith, length-take, length-append, get_or-take}
use Rattle.std.proofs.Common.{get_or-drop}
use Rattle.std.proofs.lemmas.Bool.{cases_lt}
use Rattle.std.proofs.lemmas.List.{get_or_past, ext_get_or, get_or_append_left, get_or-append_right, length-replicate, get_or-replicate}
use Rattle.std.proofs.Math.Nat.{lt-div-mul-add, suc-mul}
use Rattle.mx_words.specs.declared.perm.Perm.{Perm}
use Rattle.mx_words.specs.declared.perm.Perm.TheVariants as P
use Rattle.mx_words.specs.Rights.{same, perm_at}
use Rattle.mx_words.specs.Blocks.{block_of, IsUniform, IsEven}
use Rattle.mx_words.specs.Runs.{is_eighth_uniform, is_crowded, line_words, whole_line}
use Rattle.mx_words.proofs.RunLaws.{same_from, same_eq}
use Rattle.mx_words.proofs.BlockLaws.{even_from, even_is}

-- a word of another permission than the first one's
pub uniform_no : (m : List Perm) (first count word : ℕ) → first ≤ word → word < first + count → perm_at m word ≢ perm_at m first →
    IsTrue false ↔ IsUniform m first count
uniform_no m first count word from below differs = (
  λ e. cc,
  λ u.
      let at : first + (word - first) ≡ word = omega arith in
      absurd (differs (ap (perm_at m) (sym at) ∙ u.alike (word - first) (omega arith))),
)

-- all words in RAM have the first one's permission, and there are words outside
pub uniform_cut : (m : List Perm) (first count : ℕ) → length m < first + count
    → ((k : ℕ) → first ≤ k → k < length m → perm_at m k ≡ perm_at m first) →
    IsTrue (same (perm_at m first) P.None) ↔ IsUniform m first count
uniform_cut m first count cut alike = (there, back)
  where
    outside : (k : ℕ) → length m ≤ k → perm_at m k ≡ P.None
    outside k past = get_or_past m k P.None past

    each : same (perm_at m first) P.None ≡ true → (k : ℕ) → (first + k < length m) ⊎ (length m ≤ first + k)
        → perm_at m (first + k) ≡ perm_at m first
    each e k (inl h) = alike (first + k) (omega arith) h
    each e k (inr h) = outside (first + k) h ∙ sym (same_eq (perm_at m first) P.None e)

    there : IsTrue (same (perm_at m first) P.None) → IsUniform m first count
    there e = record { alike = λ k below. each e k (cases_lt (first + k) (length m)) }

    none_first : IsUniform m first count → (first < length m) ⊎ (length m ≤ first) → perm_at m first ≡ P.None
    none_first u (inl h) =
        let at : first + (length m - first) ≡ length m = omega arith in
        sym (u.alike (length m - first) (omega arith)) ∙ ap (perm_at m) at ∙ outside (length m) (omega arith)
    none_first u (inr h) = outside first h

    back : IsUniform m first count → IsTrue (same (perm_at m first) P.None)
    back u = same_from (perm_at m first) P.None (none_first u (cases_lt first (length m)))

-- a test of the eight parts decides whether the block is eighth-uniform
pub even_decides : (m : List Perm) (size block : ℕ) (b : Bool) → size % 8 ≡ 0 → 0 < size → (IsTrue b ↔ IsEven m (block * size) (size / 8)) →
    b ≡ is_eighth_uniform size (block_of size m block)
even_decides m size block true eighths some test =
    let eight : size ≡ 8 * (size / 8) = omega arith in
    sym (even_is size (size / 8) m block refl eight (omega arith) (test.0 refl))
even_decides m size block false eighths some test = by (is_eighth_uniform size (block_of size m block)) refl
  where
    by : (r : Bool) → is_eighth_uniform size (block_of size m block) ≡ r → false ≡ is_eighth_uniform size (block_of size m block)
    by false e = sym e
    by true e =
        let eight : size ≡ 8 * (size / 8) = omega arith in
        test.1 (even_from size (size / 8) m block refl eight (omega arith) e) ∙ sym e

-- one block more than the whole ones holds all words
pub blocks_hold : (size words : ℕ) → 0 < size → words ≤ (words / size + 1) * size
blocks_hold size words some =
    let over : words < words / size * size + size = lt-div-mul-add some in
    let e : suc (words / size) ≡ words / size + 1 = omega arith in
    let more : suc (words / size) * size ≡ (words / size + 1) * size = ap (λ n. n * size) e in
    omega (arith, suc-mul (words / size) size)

-- a line with its words outside RAM, word by word
pub whole_line_is : (m : List Perm) (first : ℕ) (line : List Perm) → length line ≡ 16
    → ((k : ℕ) → k < 16 → perm_at line k ≡ perm_at m (first + k)) →
    line ≡ whole_line (take line_words (drop first m))
whole_line_is m first line long each =
    ext_get_or P.None line (whole_line cut) (long ∙ sym whole)
    (λ k below. let inside : k < 16 = omega (arith, long) in each k inside ∙ sym (at k inside (cases_lt k (length cut))))
  where
    cut : List Perm
    cut = take line_words (drop first m)

    short : length cut ≤ 16
    short = omega (arith, length-take 16 (drop first m))

    whole : length (whole_line cut) ≡ 16
    whole = omega (arith, short, length-append cut (replicate (16 - length cut) P.None), length-replicate (16 - length cut) P.None)

    in_cut : (k : ℕ) → k < 16 → perm_at cut k ≡ perm_at m (first + k)
    in_cut k below = get_or-take 16 (drop first m) k P.None below ∙ get_or-drop first m k P.None

    at : (k : ℕ) → k < 16 → (k < length cut) ⊎ (length cut ≤ k) → perm_at (whole_line cut) k ≡ perm_at m (first + k)
    at k below (inl h) = get_or_append_left cut (replicate (16 - length cut) P.None) P.None k h ∙ in_cut k below
    at k below (inr h) =
        get_or-append_right cut (replicate (16 - length cut) P.None) (length cut) k P.None refl h
        ∙ get_or-replicate (16 - length cut) (k - length cut) P.None P.None (omega (arith, short))
        ∙ sym (get_or_past cut k P.None h) ∙ in_cut k below

-- whether line b of a map is crowded
abbrev pub crowded_at : List Perm → ℕ → Bool
crowded_at m b = is_crowded (block_of line_words m b)
