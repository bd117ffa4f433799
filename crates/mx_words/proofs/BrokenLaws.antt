-- What a change of one range does to the blocks of a map: at most two more are broken, and at most two more lines crowded, also where
-- only a first part of the range is laid over and the block after it is counted as broken.
use Rattle.std.proofs.Common.{◌≡◌, ◌≢◌, ℕ, zero, suc, ◌+◌, ◌-◌, ◌*◌, ◌/◌, ◌<◌, ◌≤◌, ◌⊎◌, inl, inr, ◌==◌, ◌||◌, Bool, true, false, not, List}
use Rattle.std.proofs.Common.{length, drop, replicate, refl, sym, ap, ◌∙◌, arith, eq-eqb, length-take, length-drop, length-append}
use Rattle.std.proofs.lemmas.List.{get_or_append_left, length-replicate}
use Rattle.std.proofs.Math.Nat.{div-mul-le_self, lt-div-mul-add, suc-mul}
use Rattle.std.proofs.lemmas.Nat.{mul-le}
use Rattle.std.proofs.lemmas.Bool.{cases_lt, cases_eq, le-ltb, ne_eqb, or_parts}
use Rattle.mx_words.specs.declared.perm.Perm.{Perm}
use Rattle.mx_words.specs.declared.perm.Perm.TheVariants as P
use Rattle.mx_words.specs.Rights.{perm_at}
use Rattle.mx_words.specs.Counting.{bit, count_below}
use Rattle.mx_words.specs.Newest.{laid}
use Rattle.mx_words.specs.Changes.{grant_of}
use Rattle.mx_words.specs.Runs.{runs, broken_blocks, crowded_lines, is_crowded, whole_line, line_words}
use Rattle.mx_words.specs.Starts.{is_start}
use Rattle.mx_words.proofs.CountingLaws.{count_below-zero, count_below-suc, count_below_none, bit-le}
use Rattle.mx_words.proofs.OverlayLaws.{laid_in, laid_below, laid_behind, length-laid}
use Rattle.mx_words.proofs.RunLaws.{runs-count, is_start-behind, same_from}
use Rattle.mx_words.specs.Blocks.{block_of, is_broken}
use Rattle.mx_words.proofs.BlockLaws.{broken_blocks-count, crowded_lines-count, block_of-at, block_of-same, is_broken-same, whole-even}

-- where a block lies, by its number
pub block-below : (size b x : ℕ) → 0 < size → b < x / size → b * size + size ≤ x
block-below size b x some below =
    let up : suc b * size ≤ x / size * size = mul-le (suc b) size (x / size) size below (omega arith) in
    omega (arith, div-mul-le_self x size, suc-mul b size)

pub block-above : (size b x : ℕ) → 0 < size → x / size < b → x < b * size
block-above size b x some above =
    let up : suc (x / size) * size ≤ b * size = mul-le (suc (x / size)) size b size above (omega arith) in
    let over : x < x / size * size + size = lt-div-mul-add some in
    omega (arith, suc-mul (x / size) size)

-- a map with a permission laid over a range
module _ (m : List Perm) (first count : ℕ) (p : Perm) (inside : first + count ≤ length m) where
  abbrev pub after : List Perm
  after = laid (grant_of first count p) m

  -- a block that is neither the first nor the one after the range is as before, or all of it has the permission
  pub block-either : (size b : ℕ) → 0 < size → b ≢ first / size → b ≢ (first + count) / size →
      ((k : ℕ) → k < size → perm_at after (b * size + k) ≡ perm_at m (b * size + k))
      ⊎ (((k : ℕ) → k < size → perm_at after (b * size + k) ≡ p) × (b * size + size ≤ length m))
  block-either size b some other behind = cases (cases_lt b (first / size)) (cases_lt b ((first + count) / size))
    where
      cases : (b < first / size) ⊎ (first / size ≤ b) → (b < (first + count) / size) ⊎ ((first + count) / size ≤ b) →
          ((k : ℕ) → k < size → perm_at after (b * size + k) ≡ perm_at m (b * size + k))
          ⊎ (((k : ℕ) → k < size → perm_at after (b * size + k) ≡ p) × (b * size + size ≤ length m))
      cases (inl h) g =
          inl (λ k below. laid_below (grant_of first count p) m (b * size + k) P.None (omega (arith, block-below size b first some h)))
      cases (inr h) (inl g) =
          let begin : first < b * size = block-above size b first some (omega arith) in
          let end : b * size + size ≤ first + count = block-below size b (first + count) some g in
          inr (λ k below. laid_in (grant_of first count p) m (b * size + k) P.None (omega arith) (omega arith) (omega arith), omega arith)
      cases (inr h) (inr g) =
          let begin : first + count < b * size = block-above size b (first + count) some (omega arith) in
          inl (λ k below. laid_behind (grant_of first count p) m (b * size + k) P.None (omega arith))

  pub broken-stays : (size part b : ℕ) → size / 8 ≡ part → size ≡ 8 * part → 0 < part → b ≢ first / size → b ≢ (first + count) / size →
      is_broken size m b ≡ false → is_broken size after b ≡ false
  broken-stays size part b is eight some other behind whole = cases (block-either size b (omega arith) other behind)
    where
      cases : ((k : ℕ) → k < size → perm_at after (b * size + k) ≡ perm_at m (b * size + k))
          ⊎ (((k : ℕ) → k < size → perm_at after (b * size + k) ≡ p) × (b * size + size ≤ length m)) → is_broken size after b ≡ false
      cases (inl h) = is_broken-same size after m b (length-laid (grant_of first count p) m) h ∙ whole
      cases (inr h) =
          let zero_more : b * size + 0 ≡ b * size = omega arith in
          whole-even size part after b is eight some (record {
            alike = λ k below. h.0 k below
                ∙ sym (ap (perm_at after) (sym zero_more) ∙ h.0 0 (omega arith));
          })

-- a line of one permission has one run
uniform_runs : (xs : List Perm) (p : Perm) → ((k : ℕ) → k < length xs → perm_at xs k ≡ p) → runs xs ≤ 1
uniform_runs xs p alike =
    let few : count_below (length xs) (is_start xs) ≤ 1 = most (length xs) (omega arith) in
    omega (arith, runs-count xs)
  where
    most : (n : ℕ) → n ≤ length xs → count_below n (is_start xs) ≤ 1
    most zero within = omega (arith, count_below-zero (is_start xs))
    most (suc zero) within = omega (arith, count_below-suc 0 (is_start xs), count_below-zero (is_start xs), bit-le (is_start xs 0))
    most (suc (suc n)) within =
        let rest : count_below (suc n) (is_start xs) ≤ 1 = most (suc n) (omega arith) in
        let alike_here : perm_at xs n ≡ perm_at xs (n + 1) = alike n (omega arith) ∙ sym (alike (n + 1) (omega arith)) in
        let none : is_start xs (n + 1) ≡ false = is_start-behind xs n ∙ ap not (same_from (perm_at xs n) (perm_at xs (n + 1)) alike_here) in
        let at : suc n ≡ n + 1 = omega arith in
        let here : bit (is_start xs (suc n)) ≡ 0 = ap (λ j. bit (is_start xs j)) at ∙ ap bit none in
        omega (arith, count_below-suc (suc n) (is_start xs))

-- counts: at most as many more as pass a third test
count_below-sum : (n : ℕ) (p q r : ℕ → Bool) → ((i : ℕ) → i < n → p i ≡ false → r i ≡ false → q i ≡ false)
    → count_below n q ≤ count_below n p + count_below n r
count_below-sum zero p q r h = omega (arith, count_below-zero q)
count_below-sum (suc n) p q r h =
    let rest : count_below n q ≤ count_below n p + count_below n r = count_below-sum n p q r (λ i below. h i (omega arith)) in
    let here : bit (q n) ≤ bit (p n) + bit (r n) = step (p n) (r n) (q n) (h n (omega arith)) in
    omega (arith, count_below-suc n p, count_below-suc n q, count_below-suc n r)
  where
    step : (a c d : Bool) → (a ≡ false → c ≡ false → d ≡ false) → bit d ≤ bit a + bit c
    step true c d h = omega (arith, bit-le d)
    step false true d h = omega (arith, bit-le d)
    step false false d h = let e : bit d ≡ 0 = ap bit (h refl refl) in omega arith

one-step : (n x : ℕ) → count_below n (λ i. i == x) ≤ 1 → (n ≡ x) ⊎ (n ≢ x) → count_below (suc n) (λ i. i == x) ≤ 1
one-step n x rest (inl h) =
    let none : count_below n (λ i. i == x) ≡ 0 = count_below_none n (λ i. i == x) (λ i below. ne_eqb i x (λ e. omega arith)) in
    omega (arith, count_below-suc n (λ i. i == x), bit-le (n == x))
one-step n x rest (inr h) =
    let here : bit (n == x) ≡ 0 = ap bit (ne_eqb n x h) in
    omega (arith, count_below-suc n (λ i. i == x))

count_below-one : (n x : ℕ) → count_below n (λ i. i == x) ≤ 1
count_below-one zero x = omega (arith, count_below-zero (λ i. i == x))
count_below-one (suc n) x = one-step n x (count_below-one n x) (cases_eq n x)

pub count_one_more : (n x : ℕ) (p q : ℕ → Bool) → ((i : ℕ) → i < n → i ≢ x → p i ≡ false → q i ≡ false)
    → count_below n q ≤ count_below n p + 1
count_one_more n x p q h =
    let all = count_below-sum n p q (λ i. i == x) (λ i below e f. h i below (λ same. let a : (i == x) ≡ true = eq-eqb i x same in cc) e) in
    omega (arith, count_below-one n x)

pub count_two_more : (n x y : ℕ) (p q : ℕ → Bool) → ((i : ℕ) → i < n → i ≢ x → i ≢ y → p i ≡ false → q i ≡ false)
    → count_below n q ≤ count_below n p + 2
count_two_more n x y p q h =
    let both : count_below n (λ i. (i == x) || (i == y)) ≤ count_below n (λ i. i == x) + count_below n (λ i. i == y) =
    count_below-sum n (λ i. i == x) (λ i. (i == x) || (i == y)) (λ i. i == y) (λ i below e f. ap (λ v. v || (i == y)) e ∙ f) in
    let all = count_below-sum n p q (λ i. (i == x) || (i == y)) (λ i below e f. h i below (apart_left i f) (apart_right i f) e) in
    omega (arith, count_below-one n x, count_below-one n y)
  where
    apart_left : (i : ℕ) → ((i == x) || (i == y)) ≡ false → i ≢ x
    apart_left i f e = let a : (i == x) ≡ true = eq-eqb i x e in let b : (i == x) ≡ false = (or_parts (i == x) (i == y) f).0 in cc

    apart_right : (i : ℕ) → ((i == x) || (i == y)) ≡ false → i ≢ y
    apart_right i f e = let a : (i == y) ≡ true = eq-eqb i y e in let b : (i == y) ≡ false = (or_parts (i == x) (i == y) f).1 in cc

-- a whole line is itself
whole-at : (block : List Perm) (p : Perm) → length block ≡ 16 → ((k : ℕ) → k < 16 → perm_at block k ≡ p) → (k : ℕ)
    → k < length (whole_line block) → perm_at (whole_line block) k ≡ p
whole-at block p long alike k below =
    let inside : k < length block = omega (
      arith,
      length-append block (replicate (line_words - length block) P.None),
      length-replicate
          (line_words - length block) P.None,
    ) in
    get_or_append_left block (replicate (line_words - length block) P.None) P.None k inside ∙ alike k (omega arith)

-- a change of one range, or of a first part of it, breaks at most two more blocks, with the block after it counted as broken
module _ (m : List Perm) (first count : ℕ) (p : Perm) (inside : first + count ≤ length m) where
  pub broken_blocks-after : (size part k : ℕ) → size / 8 ≡ part → size ≡ 8 * part → 0 < part → length m ≤ k * size →
      broken_blocks size (laid (grant_of first count p) m) ≤ broken_blocks size m + 2
  broken_blocks-after size part k is eight some within =
      let long : length (laid (grant_of first count p) m) ≤ k * size = omega (arith, length-laid (grant_of first count p) m) in
      let more = count_two_more k (first / size) ((first + count) / size) (is_broken size m)
      (is_broken size (laid (grant_of first count p) m))
      (λ b below other behind whole. broken-stays m first count p inside size part b is eight some other behind whole) in
      omega (
        arith,
        more,
        broken_blocks-count size m k (omega arith) within,
        broken_blocks-count size (laid (grant_of first count p) m) k
            (omega arith) long,
      )

  crowded-stays : (b : ℕ) → b ≢ first / line_words → b ≢ (first + count) / line_words →
      is_crowded (block_of line_words m b) ≡ false → is_crowded (block_of line_words (laid (grant_of first count p) m) b) ≡ false
  crowded-stays b other behind few = cases (block-either m first count p inside line_words b (omega arith) other behind)
    where
      cases : ((k : ℕ) → k < line_words → perm_at (laid (grant_of first count p) m) (b * line_words + k) ≡ perm_at m (b * line_words + k))
          ⊎ (((k : ℕ) → k < line_words → perm_at (laid (grant_of first count p) m) (b * line_words + k) ≡ p)
          × (b * line_words + line_words ≤ length m)) →
          is_crowded (block_of line_words (laid (grant_of first count p) m) b) ≡ false
      cases (inl h) = ap is_crowded (block_of-same line_words (laid (grant_of first count p) m) m b (length-laid (grant_of first count p) m)
          h) ∙ few
      cases (inr h) =
          let block : List Perm = block_of line_words (laid (grant_of first count p) m) b in
          let long : length block ≡ 16 = omega (
            arith,
            length-take line_words
                (drop (b * line_words) (laid (grant_of first count p) m)),
            length-drop (b * line_words)
                (laid (grant_of first count p) m),
            length-laid (grant_of first count p) m,
          ) in
          let one : runs (whole_line block) ≤ 1 =
          uniform_runs (whole_line block) p
          (λ k below. whole-at block p long (λ j under. block_of-at line_words (laid (grant_of first count p) m) b j under ∙ h.0 j under) k
          below) in
          le-ltb 4 (runs (whole_line block)) (omega arith)

  pub crowded_lines-after : (k : ℕ) → length m ≤ k * line_words → crowded_lines (laid (grant_of first count p) m) ≤ crowded_lines m + 2
  crowded_lines-after k within =
      let long : length (laid (grant_of first count p) m) ≤ k * line_words = omega (arith, length-laid (grant_of first count p) m) in
      let more = count_two_more k (first / line_words) ((first + count) / line_words) (λ b. is_crowded (block_of line_words m b)) (λ b.
      is_crowded (block_of line_words (laid (grant_of first count p) m) b))
      (λ b below other behind few. crowded-stays b other behind few) in
      omega (arith, more, crowded_lines-count m k within, crowded_lines-count (laid (grant_of first count p) m) k long)
