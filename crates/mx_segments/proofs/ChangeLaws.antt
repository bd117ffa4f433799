-- What a permission laid over a range does to the runs of a map, and to the entries of a chain.
use Rattle.std.proofs.Common.{◌≡◌, ℕ, ◌+◌, ◌-◌, ◌<◌, ◌≤◌, min, true, false, not, ◌==◌, ◌&&◌, ◌||◌, nat_lt, List, length, sym, ◌∙◌, ap}
use Rattle.std.proofs.Common.{subst, arith, inl, inr}
use Rattle.std.proofs.lemmas.Bool.{cases_lt, cases_eq, cases_order}
use Rattle.std.proofs.lemmas.Bool.Decides.{nat_tests}
use Rattle.mx_words.specs.declared.perm.Perm.{Perm}
use Rattle.mx_words.specs.declared.perm.Perm.TheVariants as P
use Rattle.mx_words.specs.Rights.{same, perm_at}
use Rattle.mx_words.specs.Counting.{bit, count_below}
use Rattle.mx_words.specs.Newest.{Laid, laid}
use Rattle.mx_words.specs.Runs.{runs}
use Rattle.mx_words.specs.Starts.{is_start}
use Rattle.mx_words.proofs.CountingLaws.{count_below_agree, count_below_along, count_below_still, count_below-more, count_below-mono}
use Rattle.mx_words.proofs.CountingLaws.{count_below_after}
use Rattle.mx_words.proofs.OverlayLaws.{laid_in, laid_below, laid_behind, length-laid}
use Rattle.mx_words.proofs.RunLaws.{runs-count, same_refl}
use Rattle.mx_words.specs.Changes.{grant_of}
use Rattle.mx_words.proofs.MapLaws.{start_step}
use Rattle.mx_segments.specs.declared.plan.Plan.{Plan}
use Rattle.mx_segments.specs.Entries.{entry_word, IsChain}
use Rattle.mx_segments.specs.Plan.{IsPlan, IsLaid, kept, total}

module _ (words : ℕ) (m : List Perm) (len : length m ≡ words) (first count : ℕ) (perm : Perm) (some : 0 < count)
    (inside : first + count ≤ words) where
  abbrev g : Laid Perm
  g = grant_of first count perm

  abbrev new : List Perm
  new = laid (grant_of first count perm) m

  pub length-new : length new ≡ words
  length-new = length-laid g m ∙ len

  pub new_below : (i : ℕ) → i < first → perm_at new i ≡ perm_at m i
  new_below i lt = laid_below g m i P.None lt

  pub new_in : (i : ℕ) → first ≤ i → i < first + count → perm_at new i ≡ perm
  new_in i le lt = laid_in g m i P.None (omega (arith, len)) le lt

  pub new_behind : (i : ℕ) → first + count ≤ i → perm_at new i ≡ perm_at m i
  new_behind i le = laid_behind g m i P.None le

  -- the test of two neighbours, after the first word
  alike : (i : ℕ) → perm_at new (i - 1) ≡ perm_at m (i - 1) → perm_at new i ≡ perm_at m i → 0 < i → is_start new i ≡ is_start m i
  alike i e f pos =
      start_step new i pos ∙ ap (λ p. not (same p (perm_at new i))) e ∙ ap (λ p. not (same (perm_at m (i - 1)) p)) f
      ∙ sym (start_step m i pos)

  pub start_below : (i : ℕ) → i < first → is_start new i ≡ is_start m i
  start_below i lt = elim (cases_eq i 0) [
    | inl e ↦ (ap (is_start new) e ∙ sym (ap (is_start m) e))
    | inr ne ↦ alike i (new_below (i - 1) (omega arith)) (new_below i lt) (omega arith)
  ]

  pub start_inside : (i : ℕ) → first < i → i < first + count → is_start new i ≡ false
  start_inside i lt lt' =
      start_step new i (omega arith) ∙ ap (λ p. not (same p (perm_at new i))) (new_in (i - 1) (omega arith) (omega arith))
      ∙ ap (λ p. not (same perm p)) (new_in i (omega arith) lt') ∙ ap not (same_refl perm)

  pub start_behind : (i : ℕ) → first + count < i → is_start new i ≡ is_start m i
  start_behind i lt = alike i (new_behind (i - 1) (omega arith)) (new_behind i (omega arith)) (omega arith)

  pub start_first : is_start new first ≡ ((first == 0) || not (same (perm_at m (first - 1)) perm))
  start_first = elim (cases_eq first 0) [
    | inl e ↦ (let t : (first == 0) ≡ true = grind (arith, nat_tests) in
        ap (is_start new) e ∙ sym (ap (λ b. b || not (same (perm_at m (first - 1)) perm)) t))
    | inr ne ↦ (let t : (first == 0) ≡ false = grind (arith, nat_tests) in
        start_step new first (omega arith) ∙ ap (λ p. not (same p (perm_at new first))) (new_below (first - 1) (omega arith))
        ∙ ap (λ p. not (same (perm_at m (first - 1)) p)) (new_in first (omega arith) (omega arith))
        ∙ sym (ap (λ b. b || not (same (perm_at m (first - 1)) perm)) t))
  ]

  pub start_end : is_start new (first + count) ≡ not (same perm (perm_at m (first + count)))
  start_end =
      start_step new (first + count) (omega arith) ∙ ap (λ p. not (same p (perm_at new (first + count))))
      (new_in (first + count - 1) (omega arith) (omega arith))
      ∙ ap (λ p. not (same perm p)) (new_behind (first + count) (omega arith))

  -- the counts
  module _ (plan : Plan) (is : IsPlan m first count perm plan) where
    before_is : (x : ℕ) → x ≤ first → count_below x (is_start new) ≡ count_below x (is_start m)
    before_is x le = count_below_agree x (is_start new) (is_start m) (λ i lt. start_below i (omega arith))

    starts_is : is_start new first ≡ plan.starts
    starts_is = start_first ∙ sym is.starts

    to_range : count_below (first + 1) (is_start new) ≡ plan.before + bit plan.starts
    to_range = omega (arith, count_below-more first (is_start new), before_is first (omega arith), is.before, ap bit starts_is)

    pub in_range : (x : ℕ) → first < x → x ≤ first + count → count_below x (is_start new) ≡ plan.before + bit plan.starts
    in_range x lt le = count_below_still (first + 1) x (is_start new) (omega arith) (λ i from below.
        start_inside i (omega arith) (omega arith)) ∙ to_range

    ends_is : first + count < words → is_start new (first + count) ≡ plan.ends
    ends_is lt =
        let t : nat_lt (first + count) (length m) ≡ true = test (first + count) (length m) (omega (arith, len)) in
        start_end ∙ ap (λ p. not (same perm p)) (sym is.next) ∙ sym (is.ends ∙ ap (λ b. b && not (same perm plan.next)) t)
      where
        test : (a b : ℕ) → a < b → nat_lt a b ≡ true
        test a b lt = grind (arith, nat_tests)

    no_end : first + count ≡ words → plan.ends ≡ false
    no_end e =
        let t : nat_lt (first + count) (length m) ≡ false = test (first + count) (length m) (omega (arith, len)) in
        is.ends ∙ ap (λ b. b && not (same perm plan.next)) t
      where
        test : (a b : ℕ) → b ≤ a → nat_lt a b ≡ false
        test a b le = grind (arith, nat_tests)

    behind_is : first + count < words → plan.behind ≡ count_below (first + count + 1) (is_start m)
    behind_is lt =
        let e : min (first + count + 1) (length m) ≡ first + count + 1 = omega (arith, len) in
        is.behind ∙ ap (λ x. count_below x (is_start m)) e

    to_end : first + count < words → count_below (first + count + 1) (is_start new) ≡ kept plan
    to_end lt = omega (
      arith,
      count_below-more (first + count) (is_start new),
      in_range (first + count) (omega arith) (omega arith),
      ap bit
          (ends_is lt),
    )

    pub after : (x : ℕ) → first + count < x → x ≤ words → count_below x (is_start new) + plan.behind ≡ count_below x (is_start m)
        + kept plan
    after x lt le =
        let along = count_below_along (first + count + 1) x (is_start new) (is_start m) (omega arith) (λ i from below.
        start_behind i (omega arith)) in
        omega (arith, along, to_end (omega arith), behind_is (omega arith))

    all_is : plan.all ≡ count_below words (is_start m)
    all_is = is.all ∙ runs-count m ∙ ap (λ x. count_below x (is_start m)) len

    runs_new : runs new ≡ count_below words (is_start new)
    runs_new = runs-count new ∙ ap (λ x. count_below x (is_start new)) length-new

    pub behind-le : plan.behind ≤ plan.all
    behind-le =
        let within : min (first + count + 1) (length m) ≤ words = omega (arith, len) in
        omega (arith, is.behind, all_is, count_below-mono (min (first + count + 1) (length m)) words (is_start m) within)

    pub before-le : plan.before ≤ plan.behind
    before-le =
        let within : first ≤ min (first + count + 1) (length m) = omega (arith, len) in
        omega (arith, is.before, is.behind, count_below-mono first (min (first + count + 1) (length m)) (is_start m) within)

    pub total_is : runs new ≡ total plan
    total_is = elim (cases_lt (first + count) words) [
      | inl lt ↦ omega (arith, after words lt (omega arith), runs_new, all_is, behind-le)
      | inr ge ↦ (let e : first + count ≡ words = omega arith in
          let whole : min (first + count + 1) (length m) ≡ words = omega (arith, len) in
          let none : bit plan.ends ≡ 0 = ap bit (no_end e) in
          let behind : plan.behind ≡ count_below words (is_start m) = is.behind ∙ ap (λ x. count_below x (is_start m)) whole in
          let range = in_range (first + count) (omega arith) (omega arith) in
          let at_end : count_below words (is_start new) ≡ count_below (first + count) (is_start new) =
          ap (λ x. count_below x (is_start new)) (sym e) in
          omega (arith, runs_new, all_is, none, behind, range, at_end))
    ]

    -- the words that the change leaves are the new map's chain
    module _ (frames : ℕ) (stored : ℕ → ℕ) (chain : IsChain words frames stored m) (frames' : ℕ) (stored' : ℕ → ℕ)
        (laid_down : IsLaid stored frames' stored' first count perm plan) where
      entry_below : (i : ℕ) → i < first → is_start new i ≡ true → stored' (count_below i (is_start new)) ≡ entry_word i (perm_at new i)
      entry_below i lt start =
          let was : is_start m i ≡ true = sym (start_below i lt) ∙ start in
          let place = before_is i (omega arith) in
          let few : count_below i (is_start m) < plan.before = omega (arith, is.before, count_below_after i first (is_start m) lt was) in
          ap stored' place ∙ laid_down.same (count_below i (is_start m)) few ∙ chain.entries i (omega arith) was
          ∙ ap (entry_word i) (sym (new_below i lt))

      entry_first : is_start new first ≡ true → stored' (count_below first (is_start new)) ≡ entry_word first (perm_at new first)
      entry_first start =
          ap stored' (before_is first (omega arith) ∙ sym is.before) ∙ laid_down.begins (sym starts_is ∙ start)
          ∙ ap (entry_word first) (sym (new_in first (omega arith) (omega arith)))

      entry_end : first + count < words → is_start new (first + count) ≡ true →
          stored' (count_below (first + count) (is_start new)) ≡ entry_word (first + count) (perm_at new (first + count))
      entry_end lt start =
          ap stored' (in_range (first + count) (omega arith) (omega arith)) ∙ laid_down.ends (sym (ends_is lt) ∙ start)
          ∙ ap (entry_word (first + count)) (is.next ∙ sym (new_behind (first + count) (omega arith)))

      entry_behind : (i : ℕ) → first + count < i → i < words → is_start new i ≡ true
          → stored' (count_below i (is_start new)) ≡ entry_word i (perm_at new i)
      entry_behind i lt below start =
          let was : is_start m i ≡ true = sym (start_behind i lt) ∙ start in
          let few : count_below i (is_start m) < plan.all = omega (arith, all_is, count_below_after i words (is_start m) below was) in
          let from : plan.behind ≤ count_below i (is_start m) =
          omega (arith, behind_is (omega arith), count_below-mono (first + count + 1) i (is_start m) (omega arith)) in
          let place : count_below i (is_start new) ≡ count_below i (is_start m) + kept plan - plan.behind =
          omega (arith, after i lt (omega arith)) in
          ap stored' place ∙ laid_down.moved (count_below i (is_start m)) from few ∙ chain.entries i below was
          ∙ ap (entry_word i) (sym (new_behind i (omega arith)))

      entry_new : (i : ℕ) → i < words → is_start new i ≡ true → stored' (count_below i (is_start new)) ≡ entry_word i (perm_at new i)
      entry_new i lt start = elim (cases_order i first) [
        | inl e ↦ (let E : ℕ → Type 0 = λ x. is_start new x ≡ true
            → stored' (count_below x (is_start new)) ≡ entry_word x (perm_at new x) in subst E (sym e) entry_first start)
        | inr (inl h) ↦ entry_below i h start
        | inr (inr h) ↦ elim (cases_order i (first + count)) [
          | inl e ↦ (let E : ℕ → Type 0 = λ x. x < words → is_start new x ≡ true
              → stored' (count_below x (is_start new)) ≡ entry_word x (perm_at new x) in subst E (sym e) entry_end lt start)
          | inr (inl k) ↦ (let both : true ≡ false = sym start ∙ start_inside i h k in cc)
          | inr (inr k) ↦ entry_behind i k lt start
        ]
      ]

      pub laid_chain : IsChain words frames' stored' new
      laid_chain = record {
        length_is = length-new;
        frames_are = omega (arith, laid_down.frames_are, total_is);
        entries = entry_new;
        rest = λ k from below. laid_down.rest k (omega (arith, total_is)) below;
      }
