-- What the code reads of the list at a row whose words are the entries of its map.
use Rattle.std.proofs.Common.{◌≡◌, ℕ, ◌+◌, ◌-◌, ◌*◌, ◌<◌, ◌≤◌, min, Bool, true, false, List, length, refl, sym, ◌∙◌, ap, subst, arith, inl}
use Rattle.std.proofs.Common.{inr}
use Rattle.std.proofs.lemmas.Bool.{cases_lt}
use Rattle.mx_words.specs.declared.perm.Perm.{Perm}
use Rattle.mx_words.specs.declared.perm.Span.{Span}
use Rattle.mx_words.specs.declared.tables.Kind.TheVariants as K
use Rattle.mx_words.specs.Rights.{perm_at}
use Rattle.mx_words.specs.Counting.{count_below}
use Rattle.mx_words.specs.Runs.{runs}
use Rattle.mx_words.specs.declared.tables.Level.TheVariants as L
use Rattle.mx_words.specs.declared.tables.Shown.{Shown}
use Rattle.mx_words.specs.Reach.{span, shown_run}
use Rattle.mx_words.specs.Reach.{stored as stored_item}
use Rattle.mx_words.specs.Starts.{is_start}
use Rattle.mx_words.proofs.CountingLaws.{IsCounted, count_below-mono, count_below_after}
use Rattle.mx_words.proofs.RunLaws.{IsRound, span_within_is}
use Rattle.mx_pool.specs.Frames.{Frames}
use Rattle.mx_segments.specs.Store.{frames_in, word_in}
use Rattle.mx_segments.specs.Entries.{perm_of, begins_before, run_start, entry_of, entry_word}
use Rattle.mx_segments.specs.Sound.{map_in, IsSound}
use Rattle.mx_segments.proofs.EntryLaws.{runs_are, runs_held, before_passes, behind_fails, run_at, round, run_start_is, run_start_end}
use Rattle.mx_segments.proofs.EntryLaws.{stored_entry, stored_some, stored_run, perm_of-entry}

abbrev made : ℕ → ℕ → Perm → Span
made first next p = record { first = first; count = next - first; perm = p }

abbrev shown : ℕ → ℕ → ℕ → Shown
shown first next e = record { level = L.Segment; first = first; count = next - first; stored = e }

module _ (words : ℕ) (fs : Frames) (ls : List (List ℕ)) (row : ℕ) (sound : IsSound words fs ls row) where
  abbrev map : List Perm
  map = map_in words fs ls row

  abbrev stored : ℕ → ℕ
  stored = word_in fs ls row

  abbrev frames : ℕ
  frames = frames_in ls row

  pub length_is : length map ≡ words
  length_is = sound.length_is

  pub few_runs : runs map ≤ 64 * frames
  few_runs = runs_held words frames stored map sound

  pub few_before : (x : ℕ) → x ≤ words → count_below x (is_start map) ≤ 64 * frames
  few_before x le = omega (arith, count_below-mono x words (is_start map) le, runs_are words frames stored map sound, few_runs)

  -- a test of the entry at k tells on which side of the count it stands
  pub passed : (x k e : ℕ) (b : Bool) → x ≤ words → k < 64 * frames → e ≡ stored k → b ≡ begins_before e x → b ≡ true
      → k < count_below x (is_start map)
  passed x k e b le lt is test yes' = elim (cases_lt k (count_below x (is_start map))) [
    | inl h ↦ h
    | inr h ↦ (let both : true ≡ false = sym yes' ∙ test ∙ ap (λ n. begins_before n x) is
        ∙ behind_fails words frames stored map sound x k le h lt in cc)
  ]

  pub failed : (x k e : ℕ) (b : Bool) → x ≤ words → e ≡ stored k → b ≡ begins_before e x → b ≡ false → count_below x (is_start map) ≤ k
  failed x k e b le is test no' = elim (cases_lt k (count_below x (is_start map))) [
    | inl h ↦ (let both : false ≡ true = sym no' ∙ test ∙ ap (λ n. begins_before n x) is
        ∙ before_passes words frames stored map sound x k le h in cc)
    | inr h ↦ h
  ]

  -- the count after a word is that of its run, counted from 1
  pub some_before : (i : ℕ) → i < words → 1 ≤ count_below (min (i + 1) words) (is_start map)
  some_before i lt =
      let e : min (i + 1) words ≡ i + 1 = omega arith in
      let some = count_below_after 0 (i + 1) (is_start map) (omega arith) refl in
      rw e (omega (arith, some))

  pub place_held : (i n : ℕ) → i < words → n ≡ count_below (min (i + 1) words) (is_start map) → n - 1 < 64 * frames
  place_held i n lt e =
      let least : min (i + 1) words ≤ words = omega arith in
      omega (arith, some_before i lt, few_before (min (i + 1) words) least)

  at_word : (i : ℕ) → i < words → count_below (min (i + 1) words) (is_start map) ≡ count_below (i + 1) (is_start map)
  at_word i lt = let e : min (i + 1) words ≡ i + 1 = omega arith in ap (λ x. count_below x (is_start map)) e

  pub perm_read : (i n e : ℕ) → i < words → n ≡ count_below (min (i + 1) words) (is_start map) → e ≡ stored (n - 1)
      → perm_of e ≡ perm_at map i
  perm_read i n e lt at is =
      let r = run_at words frames stored map sound i lt in
      ap perm_of (is ∙ ap (λ k. stored (k - 1)) (at ∙ at_word i lt)) ∙ ap perm_of r.1.entry ∙ perm_of-entry r.0 (perm_at map i)

  -- the entry of a run, and that there is none
  pub entry_read : (i e : ℕ) → i < 64 * frames → e ≡ stored i → 0 < e → e ≡ entry_of map i
  entry_read i e lt is some = is ∙ stored_entry words frames stored map sound i
      (stored_run words frames stored map sound i lt (omega arith))

  pub no_run : (i e : ℕ) → e ≡ stored i → e ≡ 0 → runs map ≤ i
  no_run i e is none = elim (cases_lt i (runs map)) [
    | inl h ↦ absurd (omega (arith, stored_some words frames stored map sound i h))
    | inr h ↦ h
  ]

  pub start_end : (i : ℕ) → runs map ≤ i → run_start map i ≡ words
  start_end i le = run_start_end words frames stored map sound i le

  -- the span of a word's run
  round_of : (i n : ℕ) → i < words → n ≡ count_below (min (i + 1) words) (is_start map)
      → IsRound map 0 words (run_start map (n - 1)) (run_start map n) i
  round_of i n lt at =
      let r = round words frames stored map sound i lt in
      let e : n ≡ count_below (i + 1) (is_start map) = at ∙ at_word i lt in
      let first : run_start map (n - 1) ≡ r.0 = ap (λ k. run_start map (k - 1)) e ∙ r.1 in
      let R : ℕ → Type 0 = λ x. IsRound map 0 words x (run_start map n) i in
      let S : ℕ → Type 0 = λ x. IsRound map 0 words r.0 (run_start map x) i in
      subst R (sym first) (subst S (sym e) r.2)

  pub starts_rise : (i n : ℕ) → i < words → n ≡ count_below (min (i + 1) words) (is_start map) → run_start map (n - 1) ≤ run_start map n
  starts_rise i n lt at =
      let r = round_of i n lt at in let left = r.left in let right = r.right in omega arith

  pub span_read : (i n first next : ℕ) (p : Perm) → i < words → n ≡ count_below (min (i + 1) words) (is_start map) →
      first ≡ run_start map (n - 1) → next ≡ run_start map n → p ≡ perm_at map i →
      record { first = first; count = next - first; perm = p } ≡ span K.Segments map i
  span_read i n first next p lt at is_first is_next is_perm =
      let r = round_of i n lt at in
      let R : ℕ → Type 0 = λ x. IsRound map 0 x (run_start map (n - 1)) (run_start map n) i in
      let r' : IsRound map 0 (length map) (run_start map (n - 1)) (run_start map n) i = subst R (sym length_is) r in
      let whole = span_within_is map 0 (length map) (run_start map (n - 1)) (run_start map n) i (omega arith) r' in
      ap (λ x. made x next p) is_first ∙ ap (λ x. made (run_start map (n - 1)) x p) is_next
      ∙ ap (made (run_start map (n - 1)) (run_start map n)) is_perm ∙ sym whole

  -- the shown item of a word's run
  pub shown_read : (i n first next e : ℕ) → i < words → n ≡ count_below (min (i + 1) words) (is_start map) →
      first ≡ run_start map (n - 1) → next ≡ run_start map n → e ≡ stored (n - 1) →
      record { level = L.Segment; first = first; count = next - first; stored = e } ≡ stored_item K.Segments map i
  shown_read i n first next e lt at is_first is_next is =
      let r = run_at words frames stored map sound i lt in
      let k : n - 1 ≡ count_below (i + 1) (is_start map) - 1 = ap (λ x. x - 1) (at ∙ at_word i lt) in
      let found : IsCounted words (is_start map) (count_below (i + 1) (is_start map) - 1) r.0 =
      (let left = r.1.left in record { below = omega arith; passes = r.1.begins; place = r.1.place }) in
      let start : run_start map (n - 1) ≡ r.0 = ap (run_start map) k
      ∙ run_start_is words frames stored map sound (count_below (i + 1) (is_start map) - 1) r.0 found in
      let entry : e ≡ entry_word first (perm_at map i) =
      is ∙ ap stored k ∙ r.1.entry ∙ ap (λ x. entry_word x (perm_at map i)) (sym (is_first ∙ start)) in
      ap (shown first next) entry ∙ ap shown_run (span_read i n first next (perm_at map i) lt at is_first is_next refl)
