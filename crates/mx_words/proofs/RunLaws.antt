-- Laws of maximal runs: their number is that of their first places, and the span round a word.
use Rattle.std.proofs.Common.{◌≡◌, ℕ, zero, suc, ◌+◌, ◌-◌, ◌<◌, ◌≤◌, Bool, true, false, cond, not, ◌==◌, ◌||◌, List, [], ◌∷◌, length}
use Rattle.std.proofs.Common.{get_or, drop, slice_range, refl, sym, ◌∙◌, ap, arith, length-take, length-drop, get_or-take, get_or-drop}
use Rattle.std.proofs.lemmas.Bool.{not-false}
use Rattle.std.proofs.lemmas.Bool.Decides.{nat_tests}
use Rattle.std.specs.List.{prefix_len, suffix_len}
use Rattle.std.proofs.lemmas.List.Sums.{prefix_len_is, suffix_len_is}
use Rattle.mx_words.specs.declared.perm.Perm.{Perm}
use Rattle.mx_words.specs.declared.perm.Perm.TheVariants as P
use Rattle.mx_words.specs.declared.perm.Span.{Span}
use Rattle.mx_words.specs.Rights.{same, perm_at}
use Rattle.mx_words.specs.Counting.{bit, count_below}
use Rattle.mx_words.specs.Runs.{Run, run_before, runs_of, runs, owner_runs}
use Rattle.mx_words.specs.Reach.{span_within}
use Rattle.mx_words.specs.Starts.{begins, is_start, is_owner_start}
use Rattle.mx_words.proofs.CountingLaws.{count_below-zero, count_below-suc, count_below_agree, count_below_first}

-- permissions that pass the test are the same
pub same_refl : (p : Perm) → same p p ≡ true
same_refl P.None = refl
same_refl P.Read = refl
same_refl P.ReadWrite = refl
same_refl P.ExecuteRead = refl

pub same_eq : (p q : Perm) → same p q ≡ true → p ≡ q
same_eq P.None P.None e = refl
same_eq P.None P.Read e = cc
same_eq P.None P.ReadWrite e = cc
same_eq P.None P.ExecuteRead e = cc
same_eq P.Read P.None e = cc
same_eq P.Read P.Read e = refl
same_eq P.Read P.ReadWrite e = cc
same_eq P.Read P.ExecuteRead e = cc
same_eq P.ReadWrite P.None e = cc
same_eq P.ReadWrite P.Read e = cc
same_eq P.ReadWrite P.ReadWrite e = refl
same_eq P.ReadWrite P.ExecuteRead e = cc
same_eq P.ExecuteRead P.None e = cc
same_eq P.ExecuteRead P.Read e = cc
same_eq P.ExecuteRead P.ReadWrite e = cc
same_eq P.ExecuteRead P.ExecuteRead e = refl

pub same_from : (p q : Perm) → p ≡ q → same p q ≡ true
same_from p q e = ap (λ r. same p r) (sym e) ∙ same_refl p

-- a list with one more element in front has one run more, unless the element is that of the first run
module _ {A : Type 0} (eq : A → A → Bool) (default : A) where
  runs_before : (x y : A) (ys : List A) → length (runs_of eq (x ∷ y ∷ ys)) ≡ bit (not (eq x y)) + length (runs_of eq (y ∷ ys))
  runs_before x y ys = by (runs_of eq ys)
    where
      at_run : (c : ℕ) (v : A) (rs : List (Run A)) (b : Bool)
          → length (cond b (record { count = c + 1; value = x } ∷ rs)
          (record { count = 1; value = x } ∷ record { count = c; value = v } ∷ rs)) ≡ bit (not b) + suc (length rs)
      at_run c v rs true = omega arith
      at_run c v rs false = omega arith

      by : (rs : List (Run A)) → length (run_before eq x (run_before eq y rs)) ≡ bit (not (eq x y)) + length (run_before eq y rs)
      by [] = at_run 1 y [] (eq x y)
      by (r ∷ rs) = by_eq (eq y r.value)
        where
          by_eq : (b : Bool) → length (run_before eq x (cond b (record { count = r.count + 1; value = y } ∷ rs)
              (record { count = 1; value = y } ∷ r ∷ rs))) ≡ bit (not (eq x y))
              + length (cond b (record { count = r.count + 1; value = y } ∷ rs) (record { count = 1; value = y } ∷ r ∷ rs))
          by_eq true = at_run (r.count + 1) y rs (eq x y)
          by_eq false = at_run 1 y (r ∷ rs) (eq x y)

  -- behind the first place a run begins where the element differs from that before
  pub begins_behind : (xs : List A) (i : ℕ) → begins eq default xs (i + 1) ≡ not (eq (get_or xs i default) (get_or xs (i + 1) default))
  begins_behind xs i =
      let far : (i + 1 == 0) ≡ false = grind (arith, nat_tests) in
      let back : i + 1 - 1 ≡ i = omega arith in
      ap (λ b. b || not (eq (get_or xs (i + 1 - 1) default) (get_or xs (i + 1) default))) far
      ∙ ap (λ j. not (eq (get_or xs j default) (get_or xs (i + 1) default))) back

  begins_shifted : (x y : A) (ys : List A) (i : ℕ) → begins eq default (x ∷ y ∷ ys) (i + 1 + 1) ≡ begins eq default (y ∷ ys) (i + 1)
  begins_shifted x y ys i =
      let one : i + 1 ≡ suc i = omega arith in
      let F : ℕ → ℕ → Bool = λ j k. not (eq (get_or (x ∷ y ∷ ys) j default) (get_or (x ∷ y ∷ ys) k default)) in
      let two : i + 1 + 1 ≡ suc (suc i) = omega arith in
      begins_behind (x ∷ y ∷ ys) (i + 1)
      ∙ ap (λ j. F j (i + 1 + 1)) one ∙ ap (F (suc i)) two
      ∙ ap (λ k. not (eq (get_or (y ∷ ys) i default) (get_or (y ∷ ys) k default))) (sym one)
      ∙ sym (begins_behind (y ∷ ys) i)

  -- the number of runs is the number of places at which one begins
  pub length-runs_of : (xs : List A) → length (runs_of eq xs) ≡ count_below (length xs) (λ i. begins eq default xs i)
  length-runs_of [] = sym (count_below-zero (λ i. begins eq default [] i))
  length-runs_of (x ∷ []) =
      let e : count_below 1 (λ i. begins eq default (x ∷ []) i) ≡ 1 = count_below-suc 0 (λ i. begins eq default (x ∷ []) i)
      ∙ ap (λ n. n + 1) (count_below-zero (λ i. begins eq default (x ∷ []) i)) in
      sym e
  length-runs_of (x ∷ y ∷ ys) = joined (length-runs_of (y ∷ ys))
    where
      joined : length (runs_of eq (y ∷ ys)) ≡ count_below (suc (length ys)) (λ i. begins eq default (y ∷ ys) i) →
          length (runs_of eq (x ∷ y ∷ ys)) ≡ count_below (suc (suc (length ys))) (λ i. begins eq default (x ∷ y ∷ ys) i)
      joined rest =
          let old = count_below_first (length ys) (λ i. begins eq default (y ∷ ys) i) in
          let new = count_below_first (suc (length ys)) (λ i. begins eq default (x ∷ y ∷ ys) i) in
          let new' = count_below_first (length ys) (λ i. begins eq default (x ∷ y ∷ ys) (i + 1)) in
          let behind = count_below_agree (length ys) (λ i. begins eq default (x ∷ y ∷ ys) (i + 1 + 1)) (λ i.
          begins eq default (y ∷ ys) (i + 1)) (λ i lt. begins_shifted x y ys i) in
          let second : bit (begins eq default (x ∷ y ∷ ys) (0 + 1)) ≡ bit (not (eq x y)) = ap bit (begins_behind (x ∷ y ∷ ys) 0) in
          let one : length ys + 1 ≡ suc (length ys) = omega arith in
          let two : suc (length ys) + 1 ≡ suc (suc (length ys)) = omega arith in
          let old_one = ap (λ n. count_below n (λ i. begins eq default (y ∷ ys) i)) one in
          let new_two = ap (λ n. count_below n (λ i. begins eq default (x ∷ y ∷ ys) i)) two in
          let new_one = ap (λ n. count_below n (λ i. begins eq default (x ∷ y ∷ ys) (i + 1))) one in
          let goal : bit (not (eq x y)) + length (runs_of eq (y ∷ ys))
          ≡ count_below (suc (suc (length ys))) (λ i. begins eq default (x ∷ y ∷ ys) i) =
          omega (arith, rest, old, new, new', behind, second, old_one, new_two, new_one) in
          runs_before x y ys ∙ goal

-- the runs of a map, and those of the owners
pub runs-count : (m : List Perm) → runs m ≡ count_below (length m) (is_start m)
runs-count m = length-runs_of same P.None m

pub owner_runs-count : (os : List ℕ) → owner_runs os ≡ count_below (length os) (is_owner_start os)
owner_runs-count os = length-runs_of (λ a b. a == b) 0 os

pub is_start-behind : (m : List Perm) (i : ℕ) → is_start m (i + 1) ≡ not (same (perm_at m i) (perm_at m (i + 1)))
is_start-behind m i = begins_behind same P.None m i

pub no_start_same : (m : List Perm) (i : ℕ) → is_start m (i + 1) ≡ false → perm_at m i ≡ perm_at m (i + 1)
no_start_same m i e = same_eq (perm_at m i) (perm_at m (i + 1))
    (not-false (same (perm_at m i) (perm_at m (i + 1))) (sym (is_start-behind m i) ∙ e))

-- where no run begins after word i up to word j, they have one permission
pub no_start_between : (m : List Perm) (i k : ℕ) → ((x : ℕ) → i < x → x ≤ i + k → is_start m x ≡ false) → perm_at m i ≡ perm_at m (i + k)
no_start_between m i zero none = let e : i ≡ i + 0 = omega arith in ap (perm_at m) e
no_start_between m i (suc k) none =
    let e : i + k + 1 ≡ i + suc k = omega arith in
    let next : is_start m (i + k + 1) ≡ false = none (i + k + 1) (omega arith) (omega arith) in
    no_start_between m i k (λ x lt le. none x lt (omega arith)) ∙ no_start_same m (i + k) next ∙ ap (perm_at m) e

pub same_in_run : (m : List Perm) (i j : ℕ) → i ≤ j → ((x : ℕ) → i < x → x ≤ j → is_start m x ≡ false) → perm_at m i ≡ perm_at m j
same_in_run m i j le none =
    let e : i + (j - i) ≡ j = omega arith in
    no_start_between m i (j - i) (λ x lt most. none x lt (omega arith)) ∙ ap (perm_at m) e

-- where a run begins after the first word, the word before has another permission
pub start_differs : (m : List Perm) (i : ℕ) → 0 < i → is_start m i ≡ true → same (perm_at m i) (perm_at m (i - 1)) ≡ false
start_differs m i some e = by (same (perm_at m i) (perm_at m (i - 1))) refl
  where
    back : i - 1 + 1 ≡ i
    back = omega arith

    by : (b : Bool) → same (perm_at m i) (perm_at m (i - 1)) ≡ b → same (perm_at m i) (perm_at m (i - 1)) ≡ false
    by false f = f
    by true f =
        let alike : perm_at m (i - 1) ≡ perm_at m i = sym (same_eq (perm_at m i) (perm_at m (i - 1)) f) in
        let none : is_start m i ≡ false =
        ap (is_start m) (sym back) ∙ is_start-behind m (i - 1) ∙ ap (λ j. not (same (perm_at m (i - 1)) (perm_at m j))) back
        ∙ ap not (same_from (perm_at m (i - 1)) (perm_at m i) alike) in
        let both : true ≡ false = sym e ∙ none in
        cc

-- the span round a word among the words from low up to high: the words from `first` up to `behind` have its permission, those at
-- both edges, where they lie within, have not
pub record IsRound (m : List Perm) (low high first behind i : ℕ) : Type 0 where
  pub from : low ≤ first
  pub left : first ≤ i
  pub right : i < behind
  pub to : behind ≤ high
  pub inside : (j : ℕ) → first ≤ j → j < behind → perm_at m i ≡ perm_at m j
  pub before : low < first → same (perm_at m i) (perm_at m (first - 1)) ≡ false
  pub after : behind < high → same (perm_at m i) (perm_at m behind) ≡ false

-- a part of a map by index
pub slice-at : (m : List Perm) (a b k : ℕ) → k < b - a → get_or (slice_range m a b) k P.None ≡ perm_at m (a + k)
slice-at m a b k lt = get_or-take (b - a) (drop a m) k P.None lt ∙ get_or-drop a m k P.None

pub length-slice : (m : List Perm) (a b : ℕ) → b ≤ length m → length (slice_range m a b) ≡ b - a
length-slice m a b le = omega (arith, length-take (b - a) (drop a m), length-drop a m)

left_length : (m : List Perm) (low high first behind i : ℕ) → high ≤ length m → IsRound m low high first behind i →
    suffix_len (same (perm_at m i)) (slice_range m low i) ≡ i - first
left_length m low high first behind i fits r =
    let from = r.from in let left = r.left in let right = r.right in let to = r.to in
    let within : i ≤ length m = omega arith in
    let len = length-slice m low i within in
    let test = same (perm_at m i) in
    let passes : (k : ℕ) → first - low ≤ k → k < length (slice_range m low i) → test (get_or (slice_range m low i) k P.None) ≡ true =
    λ k le lt. ap test (slice-at m low i k (omega (arith, len)))
    ∙ same_from (perm_at m i) (perm_at m (low + k)) (r.inside (low + k) (omega arith) (omega (arith, len))) in
    let stops : 0 < first - low → test (get_or (slice_range m low i) (first - low - 1) P.None) ≡ false =
    λ lt. let e : low + (first - low - 1) ≡ first - 1 = omega arith in
    ap test (slice-at m low i (first - low - 1) (omega arith) ∙ ap (perm_at m) e) ∙ r.before (omega arith) in
    let whole = suffix_len_is test (slice_range m low i) (first - low) P.None (omega (arith, len)) passes stops in
    omega (arith, whole, len)

right_length : (m : List Perm) (low high first behind i : ℕ) → high ≤ length m → IsRound m low high first behind i →
    prefix_len (same (perm_at m i)) (slice_range m i high) ≡ behind - i
right_length m low high first behind i fits r =
    let left = r.left in let right = r.right in let to = r.to in
    let len = length-slice m i high fits in
    let test = same (perm_at m i) in
    let passes : (k : ℕ) → k < behind - i → test (get_or (slice_range m i high) k P.None) ≡ true =
    λ k lt. ap test (slice-at m i high k (omega arith)) ∙ same_from (perm_at m i) (perm_at m (i + k))
    (r.inside (i + k) (omega arith) (omega arith)) in
    let stops : behind - i < length (slice_range m i high) → test (get_or (slice_range m i high) (behind - i) P.None) ≡ false =
    λ lt. let e : i + (behind - i) ≡ behind = omega arith in
    ap test (slice-at m i high (behind - i) (omega (arith, len)) ∙ ap (perm_at m) e) ∙ r.after (omega (arith, len)) in
    prefix_len_is test (slice_range m i high) (behind - i) P.None (omega (arith, len)) passes stops

abbrev span_of : Perm → ℕ → ℕ → ℕ → Span
span_of p i left right = record { first = i - left; count = left + right; perm = p }

pub span_within_is : (m : List Perm) (low high first behind i : ℕ) → high ≤ length m → IsRound m low high first behind i →
    span_within m low high i ≡ record { first = first; count = behind - first; perm = perm_at m i }
span_within_is m low high first behind i fits r =
    let left = r.left in let right = r.right in
    let at_first : i - (i - first) ≡ first = omega arith in
    let long : (i - first) + (behind - i) ≡ behind - first = omega arith in
    ap (λ n. span_of (perm_at m i) i n (prefix_len (same (perm_at m i)) (slice_range m i high)))
    (left_length m low high first behind i fits r)
    ∙ ap (span_of (perm_at m i) i (i - first)) (right_length m low high first behind i fits r)
    ∙ ap (λ n. record { first = n; count = (i - first) + (behind - i); perm = perm_at m i }) at_first
    ∙ ap (λ n. record { first = first; count = n; perm = perm_at m i }) long
