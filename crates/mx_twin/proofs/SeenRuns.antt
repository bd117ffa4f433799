-- Words that a domain sees alike, from run to run.
use Rattle.std.proofs.Common.{◌≡◌, ℕ, zero, suc, ◌+◌, ◌-◌, ◌*◌, ◌/◌, ◌%◌, ◌<◌, ◌≤◌, ◌⊎◌, inl, inr, Bool, true, false, not, ◌==◌, ◌&&◌, ◌||◌}
use Rattle.std.proofs.Common.{nat_eq, List, length, get_or, drop, slice_range, refl, sym, ◌∙◌, ap, arith, eq-eqb, lit<, get_or-take}
use Rattle.std.proofs.Common.{get_or-drop, length-take, length-drop, ext_get_or}
use Rattle.std.specs.Cmp.Lexicographic.{bytes_decides, pointwise}
use Rattle.std.specs.List.{list_all, range_with_len}
use Rattle.std.proofs.lemmas.Bool.{and_from, and_parts, cases_lt, false_from_ne_true, eqb-true}
use Rattle.std.proofs.lemmas.Bool.Decides.{same_from_decides}
use Rattle.mx_words.specs.declared.perm.Perm.{Perm}
use Rattle.mx_words.specs.declared.perm.Span.{Span}
use Rattle.mx_words.specs.declared.perm.Access.TheVariants as A
use Rattle.mx_words.specs.Rights.{allows, same}
use Rattle.mx_words.proofs.RangeTests.{all_pass, each_passes}
use Rattle.mx_words.proofs.ReachLaws.{IsUniformRound}
use Rattle.mx_machine.proofs.MapRuns.{walk_round}
use Rattle.mx_model.specs.Reads.{flat_reads, map_in}
use Rattle.mx_model.specs.State.{Core, Flat}
use Rattle.mx_laws.specs.Comparison.{same_word}
use Rattle.mx_touched.specs.Views.{sees_same}

-- a test of the numbers of a range, of which a part passes or doesn't
pub all-more : (test : ℕ → Bool) (first at next : ℕ) → first ≤ at → at ≤ next → list_all test (range_with_len first (at - first)) ≡ true →
    list_all test (range_with_len at (next - at)) ≡ true → list_all test (range_with_len first (next - first)) ≡ true
all-more test first at next l m p q = all_pass test first (next - first) (λ i low high. by i low high (cases_lt i at))
  where
    by : (i : ℕ) → first ≤ i → i < first + (next - first) → (i < at) ⊎ (at ≤ i) → test i ≡ true
    by i low high (inl lt) = each_passes test first (at - first) p i low (omega (arith, lt, low))
    by i low high (inr le) = each_passes test at (next - at) q i le (omega (arith, le, low, high))

pub all-part : (test : ℕ → Bool) (first count at n : ℕ) → first ≤ at → at + n ≤ first + count
    → list_all test (range_with_len at n) ≡ false →
    list_all test (range_with_len first count) ≡ false
all-part test first count at n low high e = false_from_ne_true (list_all test (range_with_len first count)) (λ p.
    let q = all_pass test at n (λ i l h. each_passes test first count p i (omega (arith, l, low)) (omega (arith, h, high))) in
    let z : ⊥ = cc in z)

pub all-missed : (test : ℕ → Bool) (first count i : ℕ) → first ≤ i → i < first + count → test i ≡ false →
    list_all test (range_with_len first count) ≡ false
all-missed test first count i low high e = false_from_ne_true (list_all test (range_with_len first count)) (λ p.
    let q = each_passes test first count p i low high in
    let z : ⊥ = cc in z)

-- a span round a word, from the word on
pub span-alike : (f : Flat) (d at : ℕ) (s : Span) → s ≡ (flat_reads f).walk d at → length (map_in f.core.size f.maps d) ≡ f.core.size
    → at < f.core.size →
    IsUniformRound (map_in f.core.size f.maps d) at s
span-alike f d at s e whole l = walk_round f d at s e whole l

-- words of one permission each from a word on, in a domain's two maps
module _ (f g : Flat) (d at x y : ℕ) (p q : Perm) (a : at < x) (b : at < y)
    (one : (w : ℕ) → at ≤ w → w < x → (flat_reads f).perm d w ≡ p) (other : (w : ℕ) → at ≤ w → w < y → (flat_reads g).perm d w ≡ q) where
  abbrev seen : ℕ → Bool
  seen = sees_same (flat_reads f) f.core (flat_reads g) g.core d

  module _ (next : ℕ) (more : at < next) (low : next ≤ x) (high : next ≤ y) where
    abbrev bytes : Bool
    bytes = list_all (same_word f.core g.core) (range_with_len at (next - at))

    seen-as : (w : ℕ) → at ≤ w → w < next → seen w ≡ (same p q && (not (allows p A.Read) || same_word f.core g.core w))
    seen-as w l h =
        ap (λ (z : Perm). same z ((flat_reads g).perm d w) && (not (allows z A.Read) || same_word f.core g.core w))
        (one w l (omega (arith, h, low)))
        ∙ ap (λ (z : Perm). same p z && (not (allows p A.Read) || same_word f.core g.core w)) (other w l (omega (arith, h, high)))

    -- one permission, and the same bytes where it may be read
    pub run-seen : (same p q && (not (allows p A.Read) || bytes)) ≡ true → list_all seen (range_with_len at (next - at)) ≡ true
    run-seen e =
        let both = and_parts (same p q) (not (allows p A.Read) || bytes) e in
        all_pass seen at (next - at) (λ w l h.
        let m : w < next = omega (arith, l, h) in
        seen-as w l m ∙ and_from (same p q) (not (allows p A.Read) || same_word f.core g.core w) both.0 (by w l h (allows p A.Read) both.1))
      where
        by : (w : ℕ) → at ≤ w → w < at + (next - at) → (t : Bool) → (not t || bytes) ≡ true → (not t || same_word f.core g.core w) ≡ true
        by w l h true e = each_passes (same_word f.core g.core) at (next - at) e w l h
        by w l h false e = refl

    -- other permissions, or other bytes where it may be read
    pub run-unlike : (end : ℕ) → next ≤ end → (same p q && (not (allows p A.Read) || bytes)) ≡ false →
        list_all seen (range_with_len at (end - at)) ≡ false
    run-unlike end l e = false_from_ne_true (list_all seen (range_with_len at (end - at)))
        (λ (t : list_all seen (range_with_len at (end - at)) ≡ true).
        let here : (w : ℕ) → at ≤ w → w < next → (same p q && (not (allows p A.Read) || same_word f.core g.core w)) ≡ true =
        λ w i o. sym (seen-as w i o) ∙ each_passes seen at (end - at) t w i (omega (arith, i, o, l)) in
        let first = (and_parts (same p q) _ (here at (omega arith) more)).0 in
        let whole = and_from (same p q) (not (allows p A.Read) || bytes) first (by (allows p A.Read) refl here) in
        let z : ⊥ = cc in z)
      where
        by : (t : Bool) → allows p A.Read ≡ t → ((w : ℕ) → at ≤ w → w < next
            → (same p q && (not (allows p A.Read) || same_word f.core g.core w)) ≡ true) →
            (not t || bytes) ≡ true
        by false n here = refl
        by true n here = all_pass (same_word f.core g.core) at (next - at) (λ w i h.
            let o : w < next = omega (arith, i, h) in
            sym (ap (λ (t : Bool). not t || same_word f.core g.core w) n)
            ∙ (and_parts (same p q) (not (allows p A.Read) || same_word f.core g.core w) (here w i o)).1)

-- slices of bytes and words
slice-byte : (xs : List ℕ) (a n k : ℕ) → k < n → get_or (slice_range xs a (a + n)) k 0 ≡ get_or xs (a + k) 0
slice-byte xs a n k l = get_or-take (a + n - a) (drop a xs) k 0 (omega (arith, l)) ∙ get_or-drop a xs k 0

slice-count : (xs : List ℕ) (a n : ℕ) → a + n ≤ length xs → length (slice_range xs a (a + n)) ≡ n
slice-count xs a n l = grind (arith, length-take {A = ℕ}, length-drop {A = ℕ})

abbrev same_at : Core → Core → ℕ → ℕ → Bool
same_at c e w k = get_or c.ram (4 * w + k) 0 == get_or e.ram (4 * w + k) 0

word-from : (c e : Core) (w : ℕ) → ((k : ℕ) → k < 4 → get_or c.ram (4 * w + k) 0 ≡ get_or e.ram (4 * w + k) 0) → same_word c e w ≡ true
word-from c e w p =
    and_from (same_at c e w 0) _ (eq-eqb _ _ (p 0 (lit< tt))) (and_from (same_at c e w 1) _ (eq-eqb _ _ (p 1 (lit< tt)))
    (and_from (same_at c e w 2) _ (eq-eqb _ _ (p 2 (lit< tt))) (and_from (same_at c e w 3) true (eq-eqb _ _ (p 3 (lit< tt))) refl)))

word-byte : (c e : Core) (w : ℕ) → same_word c e w ≡ true → (k : ℕ) → k < 4 → get_or c.ram (4 * w + k) 0 ≡ get_or e.ram (4 * w + k) 0
word-byte c e w p zero l = eqb-true _ _ (and_parts (same_at c e w 0) _ p).0
word-byte c e w p (suc zero) l = eqb-true _ _ (and_parts (same_at c e w 1) _ (and_parts (same_at c e w 0) _ p).1).0
word-byte c e w p (suc (suc zero)) l =
    eqb-true _ _ (and_parts (same_at c e w 2) _ (and_parts (same_at c e w 1) _ (and_parts (same_at c e w 0) _ p).1).1).0
word-byte c e w p (suc (suc (suc zero))) l =
    eqb-true _ _ (and_parts (same_at c e w 3) _ (and_parts (same_at c e w 2) _
    (and_parts (same_at c e w 1) _ (and_parts (same_at c e w 0) _ p).1).1).1).0
word-byte c e w p (suc (suc (suc (suc k)))) l = absurd (let q : ⊥ = omega (arith, l) in q)

module _ (c e : Core) (at n : ℕ) (first : 4 * at + 4 * n ≤ length c.ram) (second : 4 * at + 4 * n ≤ length e.ram) where
  abbrev left : List ℕ
  left = slice_range c.ram (4 * at) (4 * at + 4 * n)

  abbrev right : List ℕ
  right = slice_range e.ram (4 * at) (4 * at + 4 * n)

  words-of : left ≡ right → list_all (same_word c e) (range_with_len at n) ≡ true
  words-of p = all_pass (same_word c e) at n (λ w l h. word-from c e w (λ k m.
      let j = 4 * (w - at) + k in
      let place : 4 * at + j ≡ 4 * w + k = omega (arith, l) in
      let inside : j < 4 * n = omega (arith, l, h, m) in
      ap (λ (i : ℕ). get_or c.ram i 0) (sym place) ∙ sym (slice-byte c.ram (4 * at) (4 * n) j inside)
      ∙ ap (λ (xs : List ℕ). get_or xs j 0) p ∙ slice-byte e.ram (4 * at) (4 * n) j inside
      ∙ ap (λ (i : ℕ). get_or e.ram i 0) place))

  slices-of : list_all (same_word c e) (range_with_len at n) ≡ true → left ≡ right
  slices-of p =
      let a = slice-count c.ram (4 * at) (4 * n) first in
      let b = slice-count e.ram (4 * at) (4 * n) second in
      ext_get_or 0 left right (a ∙ sym b) (λ j l.
      let inside : j < 4 * n = omega (arith, l, a) in
      let w = at + j / 4 in
      let place : 4 * w + j % 4 ≡ 4 * at + j = omega arith in
      slice-byte c.ram (4 * at) (4 * n) j inside ∙ ap (λ (i : ℕ). get_or c.ram i 0) (sym place)
      ∙ word-byte c e w (each_passes (same_word c e) at n p w (omega arith) (omega (arith, inside))) (j % 4) (omega arith)
      ∙ ap (λ (i : ℕ). get_or e.ram i 0) place ∙ sym (slice-byte e.ram (4 * at) (4 * n) j inside))

  pub slices-decide : pointwise nat_eq left right ≡ list_all (same_word c e) (range_with_len at n)
  slices-decide =
      same_from_decides (pointwise nat_eq left right) (list_all (same_word c e) (range_with_len at n)) (bytes_decides left right)
      (slices-of, words-of)
