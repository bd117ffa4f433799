-- Parts in the order of their addresses: which of them holds a word.
use Rattle.std.proofs.Common.{ℕ, zero, suc, ◌≡◌, ◌+◌, ◌*◌, ◌-◌, ◌<◌, ◌≤◌, ⊎_elim, Bool, true, false, not, List, [], ◌∷◌, length, Some, None}
use Rattle.std.proofs.Common.{refl, sym, arith}
use Rattle.std.specs.Prelude.{nat_lt, nat_le, ◌==◌, ◌&&◌}
use Rattle.std.specs.List.{position, position_or_len}
use Rattle.std.proofs.lemmas.Bool.{cases_lt, lt-ltb, le-ltb, ltb-true, ltb-false, lt-leb, ne_eqb, and_left, and_right}
use Rattle.std.proofs.lemmas.List.Sums.{position_or_len_is, fails_before_first, passes_at_first}
use Rattle.mx_heap.specs.declared.parts.Part.{Part}
use Rattle.mx_heap.specs.Places.{Fill, blocks_of, part_at, wall, is_block_at, is_hole_around, parts_to, AreParts, AreInOrder}
use Rattle.mx_heap.proofs.FillLaws.{length-parts}
use Rattle.mx_heap.proofs.RoomLaws.{part_bounds}

part_apart : (low high : ℕ) (l : Bool) (ps : List Part) (i j : ℕ) → Fill low high l ps → i < j → j < length ps
    → (part_at ps i).first + (part_at ps i).count ≤ (part_at ps j).first
part_apart low high l [] i j h lt within = absurd (omega arith)
part_apart low high l (p ∷ ps) zero zero h lt within = absurd (omega arith)
part_apart low high l (p ∷ ps) zero (suc j) h lt within = omega
    (arith, h.0, (part_bounds (low + p.count) high p.live ps j h.3 (omega arith)).0)
part_apart low high l (p ∷ ps) (suc i) zero h lt within = absurd (omega arith)
part_apart low high l (p ∷ ps) (suc i) (suc j) h lt within = part_apart (low + p.count) high p.live ps i j h.3 (omega arith) (omega arith)

pub in_order : (first count : ℕ) (ps : List Part) (live capacity : ℕ) → AreParts first count ps live capacity → AreInOrder ps
in_order first count ps live capacity h = record {
  few = let most : length ps ≤ 2 * length (blocks_of ps) + 1 = length-parts first (first + count) true ps h.fill in
      omega (arith, most, h.counted, h.few);
  some = λ i within. (part_bounds first (first + count) true ps i h.fill within).1;
  apart = λ i j lt within. part_apart first (first + count) true ps i j h.fill lt within;
}

module _ (ps : List Part) (o : AreInOrder ps) where
  -- parts don't fall
  pub firsts : (i j : ℕ) → i ≤ j → j < length ps → (part_at ps i).first ≤ (part_at ps j).first
  firsts i j le within = ⊎_elim
      (λ (lt : i < j). omega (arith, o.apart i j lt within))
      (λ (ge : j ≤ i). let e : i ≡ j = omega arith in rw e (omega arith))
      (cases_lt i j)

  module _ (word : ℕ) where
    to_within : (k : ℕ) → k < parts_to word ps → (part_at ps k).first ≤ word
    to_within k lt = ltb-false word (part_at ps k).first (fails_before_first (λ (p : Part). nat_lt word p.first) ps k wall lt)

    behind_first : parts_to word ps < length ps → word < (part_at ps (parts_to word ps)).first
    behind_first lt = ltb-true word (part_at ps (parts_to word ps)).first (passes_at_first (λ (p : Part). nat_lt word p.first) ps wall lt)

    from_behind : (k : ℕ) → parts_to word ps ≤ k → k < length ps → word < (part_at ps k).first
    from_behind k le within = omega (arith, behind_first (omega arith), firsts (parts_to word ps) k le within)

    -- a test that only the part before that place can pass
    module _ (test : Part → Bool) (before : (k : ℕ) → k + 1 < parts_to word ps → test (part_at ps k) ≡ false) (behind : (k : ℕ)
        → parts_to word ps ≤ k → k < length ps → test (part_at ps k) ≡ false) where
      pub place_only : 0 < parts_to word ps → parts_to word ps ≤ length ps → test (part_at ps (parts_to word ps - 1)) ≡ true
          → Some (parts_to word ps - 1) ≡ position test ps
      place_only some within passes =
          let n : ℕ = parts_to word ps in
          let at : position_or_len test ps ≡ n - 1 = position_or_len_is test ps (n - 1) wall (omega arith) (λ k lt. before k (omega arith))
          (λ _. passes) in
          sym (rw (at, lt-ltb (n - 1) (length ps) (omega arith)) refl)

      pub place_nowhere : parts_to word ps ≤ length ps → (0 < parts_to word ps → test (part_at ps (parts_to word ps - 1)) ≡ false)
          → None ≡ position test ps
      place_nowhere within fails =
          let n : ℕ = parts_to word ps in
          let at : position_or_len test ps ≡ length ps = position_or_len_is test ps (length ps) wall (omega arith)
          (λ k lt. ⊎_elim
          (λ (low : k + 1 < n). before k low)
          (λ (up : n ≤ k + 1). ⊎_elim
          (λ (here : k < n). let e : k ≡ n - 1 = omega arith in rw e (fails (omega arith)))
          (λ (past : n ≤ k). behind k past lt)
          (cases_lt k n))
          (cases_lt (k + 1) n))
          (λ lt. absurd (omega arith)) in
          sym (rw (at, le-ltb (length ps) (length ps) (omega arith)) refl)

    -- parts further before end at the word or before it
    ended : (k : ℕ) → k + 1 < parts_to word ps → parts_to word ps ≤ length ps → (part_at ps k).first + (part_at ps k).count ≤ word
    ended k lt within = omega (arith, o.apart k (k + 1) (omega arith) (omega arith), to_within (k + 1) lt)

    pub block_before : (k : ℕ) → k + 1 < parts_to word ps → parts_to word ps ≤ length ps → is_block_at word (part_at ps k) ≡ false
    block_before k lt within = and_right (part_at ps k).live ((part_at ps k).first == word)
        (ne_eqb (part_at ps k).first word (λ e. omega (arith, e, ended k lt within, o.some k (omega arith))))

    pub block_behind : (k : ℕ) → parts_to word ps ≤ k → k < length ps → is_block_at word (part_at ps k) ≡ false
    block_behind k le within = and_right (part_at ps k).live ((part_at ps k).first == word)
        (ne_eqb (part_at ps k).first word (λ e. omega (arith, e, from_behind k le within)))

    pub hole_before : (count : ℕ) → 0 < count → (k : ℕ) → k + 1 < parts_to word ps → parts_to word ps ≤ length ps
        → is_hole_around word count (part_at ps k) ≡ false
    hole_before count some k lt within =
        let p = part_at ps k in
        and_right (not p.live) (nat_le p.first word && nat_le (word + count) (p.first + p.count))
        (and_right (nat_le p.first word) (nat_le (word + count) (p.first + p.count))
        (lt-leb (word + count) (p.first + p.count) (omega (arith, ended k lt within))))

    pub hole_behind : (count : ℕ) → (k : ℕ) → parts_to word ps ≤ k → k < length ps → is_hole_around word count (part_at ps k) ≡ false
    hole_behind count k le within =
        let p = part_at ps k in
        and_right (not p.live) (nat_le p.first word && nat_le (word + count) (p.first + p.count))
        (and_left (nat_le p.first word) (nat_le (word + count) (p.first + p.count))
        (lt-leb p.first word (omega (arith, from_behind k le within))))
