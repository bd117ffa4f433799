-- What the entries of a chain tell of its map.
use Rattle.std.proofs.Common.{◌≡◌, ℕ, ◌+◌, ◌-◌, ◌*◌, ◌/◌, ◌%◌, ◌<◌, ◌≤◌, Bool, true, false, ◌&&◌, nat_lt, nat_le, List, length, unwrap_or}
use Rattle.std.proofs.Common.{refl, sym, ◌∙◌, ap, subst, arith, inl, inr}
use Rattle.std.proofs.lemmas.Bool.{cases_lt}
use Rattle.std.proofs.lemmas.Bool.Decides.{nat_tests}
use Rattle.std.proofs.lemmas.List.{get_or_default}
use Rattle.mx_words.specs.declared.perm.Perm.{Perm}
use Rattle.mx_words.specs.declared.perm.Perm.TheVariants as P
use Rattle.mx_words.specs.Rights.{number, from_number, same, perm_at}
use Rattle.mx_words.specs.Ranges.{address_of}
use Rattle.mx_words.specs.Counting.{count_below}
use Rattle.mx_words.specs.Runs.{runs}
use Rattle.mx_words.specs.Starts.{is_start}
use Rattle.mx_words.proofs.NumberLaws.{number-small, from_number-number}
use Rattle.mx_words.proofs.CountingLaws.{IsCounted, count_below_find, count_below_is, count_below_yes, count_below-mono, count_below_after}
use Rattle.mx_words.proofs.CountingLaws.{count_below_same, list_below_is}
use Rattle.mx_words.proofs.RunLaws.{runs-count, same_in_run, start_differs, same_from, same_eq, IsRound}
use Rattle.mx_segments.specs.Entries.{entry_word, perm_of, begins_before, run_start, entry_of, read_at, read_map, IsChain}

entry_rest : (word : ℕ) (p : Perm) → entry_word word p % 4 ≡ number p
entry_rest word p = omega (arith, number-small p)

pub perm_of-entry : (word : ℕ) (p : Perm) → perm_of (entry_word word p) ≡ p
perm_of-entry word p = ap (λ n. unwrap_or (from_number n) P.None) (entry_rest word p) ∙ from_number-number p

pub begins_before-entry : (i : ℕ) (p : Perm) (x : ℕ) → i < x → begins_before (entry_word i p) x ≡ true
begins_before-entry i p x lt =
    let small = number-small p in
    let some : 0 < entry_word i p = omega arith in
    let below : entry_word i p < address_of x = omega arith in
    both some below
  where
    both : 0 < entry_word i p → entry_word i p < address_of x → begins_before (entry_word i p) x ≡ true
    both some below = rest (entry_word i p) (address_of x) some below
      where
        rest : (e a : ℕ) → 0 < e → e < a → (nat_lt 0 e && nat_lt e a) ≡ true
        rest e a some below = grind (arith, nat_tests)

pub begins_behind-entry : (i : ℕ) (p : Perm) (x : ℕ) → x ≤ i → begins_before (entry_word i p) x ≡ false
begins_behind-entry i p x le = rest (entry_word i p) (address_of x) (omega (arith, number-small p))
  where
    rest : (e a : ℕ) → a ≤ e → (nat_lt 0 e && nat_lt e a) ≡ false
    rest e a le = grind (arith, nat_tests)

pub begins_before-zero : (e x : ℕ) → e ≡ 0 → begins_before e x ≡ false
begins_before-zero e x none = ap (λ n. begins_before n x) none

pub frames_hold : (r : ℕ) → r ≤ 64 * ((r + 63) / 64)
frames_hold r = omega arith

-- a chain of entries
module _ (words frames : ℕ) (stored : ℕ → ℕ) (m : List Perm) (chain : IsChain words frames stored m) where
  starts : ℕ → ℕ
  starts x = count_below x (is_start m)

  pub runs_are : runs m ≡ count_below words (is_start m)
  runs_are = runs-count m ∙ ap (λ n. count_below n (is_start m)) chain.length_is

  pub runs_held : runs m ≤ 64 * frames
  runs_held = let f = chain.frames_are in omega (arith, frames_hold (runs m))

  -- the entries before a word are those of the runs that begin before it
  pub before_passes : (x k : ℕ) → x ≤ words → k < count_below x (is_start m) → begins_before (stored k) x ≡ true
  before_passes x k le lt = by (count_below_find x (is_start m) k lt)
    where
      by : (i : ℕ) × IsCounted x (is_start m) k i → begins_before (stored k) x ≡ true
      by (i, found) =
          let below = found.below in
          let within : i < words = omega arith in
          let entry : stored k ≡ entry_word i (perm_at m i) = ap stored (sym found.place) ∙ chain.entries i within found.passes in
          ap (λ e. begins_before e x) entry ∙ begins_before-entry i (perm_at m i) x below

  pub behind_fails : (x k : ℕ) → x ≤ words → count_below x (is_start m) ≤ k → k < 64 * frames → begins_before (stored k) x ≡ false
  behind_fails x k le from lt = elim (cases_lt k (runs m)) [
    | inl h ↦ by (count_below_find words (is_start m) k (omega (arith, runs_are)))
    | inr h ↦ begins_before-zero (stored k) x (chain.rest k h lt)
  ]
    where
      by : (i : ℕ) × IsCounted words (is_start m) k i → begins_before (stored k) x ≡ false
      by (i, found) =
          let entry : stored k ≡ entry_word i (perm_at m i) = ap stored (sym found.place) ∙ chain.entries i found.below found.passes in
          let behind : x ≤ i = elim (cases_lt i x) [
            | inl h ↦ absurd (omega (arith, count_below_after i x (is_start m) h found.passes, found.place))
            | inr h ↦ h
          ] in
          ap (λ e. begins_before e x) entry ∙ begins_behind-entry i (perm_at m i) x behind

  pub entries_counted : (x : ℕ) → x ≤ words → count_below (64 * frames) (λ k. begins_before (stored k) x) ≡ count_below x (is_start m)
  entries_counted x le =
      let few : count_below x (is_start m) ≤ 64 * frames = omega (arith, count_below-mono x words (is_start m) le, runs_are, runs_held) in
      count_below_is (64 * frames) (count_below x (is_start m)) (λ k. begins_before (stored k) x) few (λ k lt. before_passes x k le lt)
      (λ k from lt. behind_fails x k le from lt)

  -- the run that holds word i: it begins at `first` and is run k, and the next begins at `behind`, if it lies in RAM
  pub record IsRunAt (i first k : ℕ) : Type 0 where
    pub left : first ≤ i
    pub begins : is_start m first ≡ true
    pub place : count_below first (is_start m) ≡ k
    pub counted : count_below (i + 1) (is_start m) ≡ k + 1
    pub alike : (j : ℕ) → first ≤ j → j ≤ i → perm_at m first ≡ perm_at m j
    pub entry : stored k ≡ entry_word first (perm_at m i)

  pub run_at : (i : ℕ) → i < words → (first : ℕ) × IsRunAt i first (count_below (i + 1) (is_start m) - 1)
  run_at i lt = by (count_below_find (i + 1) (is_start m) (count_below (i + 1) (is_start m) - 1) (omega (arith, some)))
    where
      some : 1 ≤ count_below (i + 1) (is_start m)
      some = omega (arith, count_below_after 0 (i + 1) (is_start m) (omega arith) refl)

      by : (first : ℕ) × IsCounted (i + 1) (is_start m) (count_below (i + 1) (is_start m) - 1) first
          → (first : ℕ) × IsRunAt i first (count_below (i + 1) (is_start m) - 1)
      by (first, found) =
          let below = found.below in
          let place = found.place in
          let left : first ≤ i = omega arith in
          let step = count_below_yes first (is_start m) found.passes in
          let still : count_below (i + 1) (is_start m) ≡ count_below (first + 1) (is_start m) = omega (arith, some, step, place) in
          let alike : (j : ℕ) → first ≤ j → j ≤ i → perm_at m first ≡ perm_at m j =
          λ j from to. same_in_run m first j from (λ x after most.
          count_below_same (first + 1) (i + 1) x (is_start m) still (omega arith) (omega arith)) in
          let within : first < words = omega arith in (
            first,
            record {
              left = left;
              begins = found.passes;
              place = place;
              counted = omega (arith, some);
              alike = alike;
              entry = ap stored (sym place) ∙ chain.entries first within found.passes ∙ ap (entry_word first) (alike i left (omega arith));
            },
          )

  pub read_at_is : (i : ℕ) → i < words → read_at frames stored i ≡ perm_at m i
  read_at_is i lt =
      let r = run_at i lt in
      ap (λ n. perm_of (stored (n - 1))) (entries_counted (i + 1) (omega arith)) ∙ ap perm_of r.1.entry ∙ perm_of-entry r.0 (perm_at m i)

  pub read_map_is : read_map words frames stored ≡ m
  read_map_is = list_below_is words (read_at frames stored) m chain.length_is
      (λ i d lt. let lt' : i < length m = omega (arith, chain.length_is) in get_or_default m i d P.None lt' ∙ sym (read_at_is i lt))

  -- where a run begins
  pub run_start_is : (k i : ℕ) → IsCounted words (is_start m) k i → run_start m k ≡ i
  run_start_is k i found =
      let below = found.below in
      let place = found.place in
      let within : i ≤ length m = omega (arith, chain.length_is) in
      let step = count_below_yes i (is_start m) found.passes in
      count_below_is (length m) i (λ j. nat_le (count_below (j + 1) (is_start m)) k) within
      (λ j lt. at_most (count_below (j + 1) (is_start m)) k (omega (arith, place, count_below-mono (j + 1) i (is_start m) (omega arith))))
      (λ j from lt. more (count_below (j + 1) (is_start m)) k
      (omega (arith, place, step, count_below-mono (i + 1) (j + 1) (is_start m) (omega arith))))
    where
      at_most : (a b : ℕ) → a ≤ b → nat_le a b ≡ true
      at_most a b le = grind (arith, nat_tests)

      more : (a b : ℕ) → b < a → nat_le a b ≡ false
      more a b lt = grind (arith, nat_tests)

  pub run_start_end : (k : ℕ) → runs m ≤ k → run_start m k ≡ words
  run_start_end k le =
      count_below_is (length m) (length m) (λ j. nat_le (count_below (j + 1) (is_start m)) k) (omega arith)
      (λ j lt. at_most (count_below (j + 1) (is_start m)) k (omega
      (arith, runs_are, chain.length_is, count_below-mono (j + 1) words (is_start m) (omega (arith, chain.length_is)))))
      (λ j from lt. absurd (omega arith))
      ∙ chain.length_is
    where
      at_most : (a b : ℕ) → a ≤ b → nat_le a b ≡ true
      at_most a b le = grind (arith, nat_tests)

  -- each run's entry stands at its number
  pub stored_entry : (k : ℕ) → k < runs m → stored k ≡ entry_of m k
  stored_entry k lt = by (count_below_find words (is_start m) k (omega (arith, runs_are)))
    where
      by : (i : ℕ) × IsCounted words (is_start m) k i → stored k ≡ entry_of m k
      by (i, found) = ap stored (sym found.place) ∙ chain.entries i found.below found.passes
          ∙ ap (λ x. entry_word x (perm_at m x)) (sym (run_start_is k i found))

  pub entry_some : (x : ℕ) (p : Perm) → 0 < entry_word x p
  entry_some x p = omega arith

  -- a stored word is 0 exactly where there is no run of its number
  pub stored_some : (k : ℕ) → k < runs m → 0 < stored k
  stored_some k lt = omega (arith, stored_entry k lt, entry_some (run_start m k) (perm_at m (run_start m k)))

  pub stored_run : (k : ℕ) → k < 64 * frames → 0 < stored k → k < runs m
  stored_run k lt some = elim (cases_lt k (runs m)) [ inl h ↦ h | inr h ↦ absurd (omega (arith, chain.rest k h lt)) ]

  -- the next run
  record IsNext (k i b : ℕ) : Type 0 where
    after : i < b
    within : b ≤ words
    place : count_below b (is_start m) ≡ k + 1
    begins : b < words → is_start m b ≡ true
    start : run_start m (k + 1) ≡ b

  next_run : (i k : ℕ) → i < words → count_below (i + 1) (is_start m) ≡ k + 1 → (b : ℕ) × IsNext k i b
  next_run i k lt counted = elim (cases_lt (k + 1) (runs m)) [
    | inl h ↦ by (count_below_find words (is_start m) (k + 1) (omega (arith, runs_are)))
    | inr h ↦ (
      words,
      record {
        after = lt;
        within = omega arith;
        place = omega (arith, runs_are, count_below-mono (i + 1) words (is_start m) (omega arith));
        begins = λ below. absurd (omega arith);
        start = run_start_end (k + 1) h;
      },
    )
  ]
    where
      by : (b : ℕ) × IsCounted words (is_start m) (k + 1) b → (b : ℕ) × IsNext k i b
      by (b, found) = (
        b,
        record {
          after = elim (cases_lt i b) [
            | inl h ↦ h
            | inr h ↦ absurd (omega (arith, counted, found.place, count_below_after b (i + 1) (is_start m) (omega arith) found.passes))
          ];
          within = (let below = found.below in omega arith);
          place = found.place;
          begins = λ below. found.passes;
          start = run_start_is (k + 1) b found;
        },
      )

  same_sym : (p q : Perm) → same p q ≡ false → same q p ≡ false
  same_sym p q e = by (same q p) refl
    where
      by : (b : Bool) → same q p ≡ b → same q p ≡ false
      by false f = f
      by true f = let both : true ≡ false = sym (same_from p q (sym (same_eq q p f))) ∙ e in cc

  -- the run round a word
  pub round : (i : ℕ) → i < words →
      (first : ℕ) × (run_start m (count_below (i + 1) (is_start m) - 1) ≡ first)
      × IsRound m 0 words first (run_start m (count_below (i + 1) (is_start m))) i
  round i lt = by (run_at i lt)
    where
      by : (first : ℕ) × IsRunAt i first (count_below (i + 1) (is_start m) - 1) →
          (first : ℕ) × (run_start m (count_below (i + 1) (is_start m) - 1) ≡ first)
          × IsRound m 0 words first (run_start m (count_below (i + 1) (is_start m))) i
      by (first, r) = with_next (next_run i (count_below (i + 1) (is_start m) - 1) lt r.counted)
        where
          left : first ≤ i
          left = r.left

          with_next : (b : ℕ) × IsNext (count_below (i + 1) (is_start m) - 1) i b →
              (first : ℕ) × (run_start m (count_below (i + 1) (is_start m) - 1) ≡ first)
              × IsRound m 0 words first (run_start m (count_below (i + 1) (is_start m))) i
          with_next (b, n) =
              let after = n.after in
              let within = n.within in
              let start : run_start m (count_below (i + 1) (is_start m)) ≡ b = ap (run_start m) r.counted ∙ n.start in
              let step = count_below_yes first (is_start m) r.begins in
              let still : count_below b (is_start m) ≡ count_below (first + 1) (is_start m) = omega (arith, n.place, r.place, step) in
              let alike : (j : ℕ) → first ≤ j → j < b → perm_at m first ≡ perm_at m j =
              λ j from to. same_in_run m first j from (λ x behind most.
              count_below_same (first + 1) b x (is_start m) still (omega arith) (omega arith)) in
              let here : perm_at m first ≡ perm_at m i = alike i left after in
              let counted : IsCounted words (is_start m) (count_below (i + 1) (is_start m) - 1) first =
              record { below = omega arith; passes = r.begins; place = r.place } in
              let round : IsRound m 0 words first b i = record {
                from = omega arith;
                left = left;
                right = after;
                to = within;
                inside = λ j from to. sym here ∙ alike j from to;
                before = λ some. ap (λ p. same p (perm_at m (first - 1))) (sym here) ∙ start_differs m first some r.begins;
                after = λ below. (let differs : same (perm_at m b) (perm_at m (b - 1)) ≡ false =
                    start_differs m b (omega arith) (n.begins below) in
                    let last : perm_at m (b - 1) ≡ perm_at m i = sym (alike (b - 1) (omega arith) (omega arith)) ∙ here in
                    same_sym (perm_at m b) (perm_at m i) (ap (same (perm_at m b)) (sym last) ∙ differs));
              } in
              let R : ℕ → Type 0 = λ x. IsRound m 0 words first x i in
              (first, run_start_is (count_below (i + 1) (is_start m) - 1) first counted, subst R (sym start) round)
