-- The maximal runs of the words that pass a test, found from the end of words that are alike to the next end.
use Rattle.std.proofs.Common.{◌≡◌, ℕ, zero, suc, ◌+◌, ◌-◌, ◌<◌, ◌≤◌, ◌⊎◌, inl, inr, Bool, true, false, ◌==◌, nat_lt, nat_le, if◌then◌else◌}
use Rattle.std.proofs.Common.{List, [], ◌∷◌, ◌++◌, refl, sym, ap, ◌∙◌, subst, arith, Some, slice_get, take}
use Rattle.std.proofs.lemmas.Bool.{cases_eq, ltb-true, ltb-false, lt-ltb, le-leb, eqb-true, eq-eqb, ne_eqb, and_from, or_cases, or_left}
use Rattle.std.proofs.lemmas.Bool.{or_right}
use Rattle.std.proofs.lemmas.List.Sums.{sum_by_more}
use Rattle.std.proofs.lemmas.Option.{get_or_from_slice_get, slice_get_within}
use Rattle.mx_words.specs.declared.perm.Span.{Span}
use Rattle.mx_words.specs.Caches.{covers_word}
use Rattle.mx_words.specs.Ranges.{covers, most_words}
use Rattle.mx_words.proofs.OverlayLaws.{covers_from}
use Rattle.mx_audit.specs.SealedRuns.{words_from, with_word, runs_where, AreInRam, lies_in}
use Rattle.mx_audit.specs.Lines.{words_of}
use Rattle.mx_audit.specs.AlikeWords.{run_between}

-- words that don't pass have no run
pub runs_skip : (test : ℕ → Bool) (a k m n : ℕ) → m ≡ k + n → ((w : ℕ) → a ≤ w → w < a + k → test w ≡ false) →
    runs_where test a m ≡ runs_where test (a + k) n
runs_skip test a zero m n e none =
    let same : m ≡ n = omega arith in
    let here : a ≡ a + 0 = omega arith in
    ap (runs_where test a) same ∙ ap (λ i. runs_where test i n) here
runs_skip test a (suc k) zero n e none = absurd (omega arith)
runs_skip test a (suc k) (suc m) n e none =
    let next : a + 1 + k ≡ a + suc k = omega arith in
    ap (λ b. if b then with_word a (runs_where test (a + 1) m) else runs_where test (a + 1) m) (none a (omega arith) (omega arith))
    ∙ runs_skip test (a + 1) k m n (omega arith) (λ w l u. none w (omega arith) (omega arith))
    ∙ ap (λ i. runs_where test i n) next

-- runs of which none begins before a word
abbrev Begins : ℕ → List Span → Type 0
Begins a [] = Unit {0}
Begins a (s ∷ ss) = a ≤ s.first

begins-with : (a : ℕ) (runs : List Span) → Begins a (with_word a runs)
begins-with a [] = omega arith
begins-with a (s ∷ ss) = elim (s.first == a + 1) as
    (λ b. Begins a (if b then words_from a (s.count + 1) ∷ ss else words_from a 1 ∷ s ∷ ss)) [
      | true ↦ omega arith
      | false ↦ omega arith
    ]

begins-later : (a b : ℕ) (runs : List Span) → a ≤ b → Begins b runs → Begins a runs
begins-later a b [] l p = tt
begins-later a b (s ∷ ss) l p = omega arith

begins : (test : ℕ → Bool) (a n : ℕ) → Begins a (runs_where test a n)
begins test a zero = tt
begins test a (suc n) = elim (test a) as
    (λ b. Begins a (if b then with_word a (runs_where test (a + 1) n) else runs_where test (a + 1) n)) [
      | true ↦ begins-with a (runs_where test (a + 1) n)
      | false ↦ begins-later a (a + 1) (runs_where test (a + 1) n) (omega arith) (begins test (a + 1) n)
    ]

-- a word before runs of which none begins behind it
word-alone : (a b : ℕ) (runs : List Span) → a + 1 < b → Begins b runs → with_word a runs ≡ words_from a 1 ∷ runs
word-alone a b [] l p = refl
word-alone a b (s ∷ ss) l p =
    ap (λ t. if t then words_from a (s.count + 1) ∷ ss else words_from a 1 ∷ s ∷ ss) (ne_eqb s.first (a + 1) (λ e. omega arith))

-- a word before others, of which the first doesn't pass
word-last : (test : ℕ → Bool) (a n : ℕ) → (0 < n → test (a + 1) ≡ false)
    → with_word a (runs_where test (a + 1) n) ≡ words_from a 1 ∷ runs_where test (a + 1) n
word-last test a zero other = refl
word-last test a (suc n) other =
    let skip : runs_where test (a + 1) (suc n) ≡ runs_where test (a + 1 + 1) n =
    ap (λ b. if b then with_word (a + 1) (runs_where test (a + 1 + 1) n) else runs_where test (a + 1 + 1) n) (other (omega arith)) in
    ap (with_word a) skip ∙ word-alone a (a + 1 + 1) (runs_where test (a + 1 + 1) n) (omega arith) (begins test (a + 1 + 1) n)
    ∙ ap (λ runs. words_from a 1 ∷ runs) (sym skip)

-- a word before the run that begins behind it
word-front : (a k : ℕ) (runs : List Span) → with_word a (words_from (a + 1) k ∷ runs) ≡ words_from a (k + 1) ∷ runs
word-front a k runs =
    ap (λ t. if t then words_from a (k + 1) ∷ runs else words_from a 1 ∷ words_from (a + 1) k ∷ runs) (eq-eqb (a + 1) (a + 1) refl)

-- words that pass, and one behind them that doesn't, or none
runs_front : (test : ℕ → Bool) (a k m n : ℕ) → m ≡ suc k + n → ((w : ℕ) → a ≤ w → w < a + suc k → test w ≡ true)
    → (0 < n → test (a + suc k) ≡ false) →
    runs_where test a m ≡ words_from a (suc k) ∷ runs_where test (a + suc k) n
runs_front test a k zero n e all other = absurd (omega arith)
runs_front test a zero (suc m) n e all other =
    let same : m ≡ n = omega arith in
    ap (λ b. if b then with_word a (runs_where test (a + 1) m) else runs_where test (a + 1) m) (all a (omega arith) (omega arith))
    ∙ ap (λ i. with_word a (runs_where test (a + 1) i)) same
    ∙ word-last test a n other
runs_front test a (suc k) (suc m) n e all other =
    let next : a + 1 + suc k ≡ a + suc (suc k) = omega arith in
    let more : suc k + 1 ≡ suc (suc k) = omega arith in
    ap (λ b. if b then with_word a (runs_where test (a + 1) m) else runs_where test (a + 1) m) (all a (omega arith) (omega arith))
    ∙ ap (with_word a) (runs_front test (a + 1) k m n (omega arith) (λ w l u. all w (omega arith) (omega arith)) (λ l. ap test next
    ∙ other l))
    ∙ word-front a (suc k) (runs_where test (a + 1 + suc k) n)
    ∙ ap (λ i. words_from a i ∷ runs_where test (a + 1 + suc k) n) more
    ∙ ap (λ i. words_from a (suc (suc k)) ∷ runs_where test i n) next

-- words that pass up to one, and then words that don't
pub runs_step : (test : ℕ → Bool) (size a w b : ℕ) → a ≤ w → w < b → b ≤ size → ((v : ℕ) → a ≤ v → v < w → test v ≡ true)
    → ((v : ℕ) → w ≤ v → v < b → test v ≡ false) →
    runs_where test a (size - a) ≡ run_between a w ++ runs_where test b (size - b)
runs_step test size a w b l lt u all none = by (nat_lt a w) refl
  where
    rest : runs_where test w (size - w) ≡ runs_where test b (size - b)
    rest =
        let e : w + (b - w) ≡ b = omega arith in
        runs_skip test w (b - w) (size - w) (size - b) (omega arith) (λ v p q. none v p (omega arith))
        ∙ ap (λ i. runs_where test i (size - b)) e

    by : (t : Bool) → nat_lt a w ≡ t → runs_where test a (size - a) ≡ run_between a w ++ runs_where test b (size - b)
    by true e =
        let first : a < w = ltb-true a w e in
        let place : a + suc (w - a - 1) ≡ w = omega arith in
        let count : suc (w - a - 1) ≡ w - a = omega arith in
        runs_front test a (w - a - 1) (size - a) (size - w) (omega arith) (λ v p q. all v p (omega arith)) (λ p.
        none (a + suc (w - a - 1)) (omega arith) (omega arith))
        ∙ ap (λ i. words_from a (suc (w - a - 1)) ∷ runs_where test i (size - w)) place
        ∙ ap (λ i. words_from a i ∷ runs_where test w (size - w)) count
        ∙ ap (λ runs. words_from a (w - a) ∷ runs) rest
        ∙ sym (ap (λ t. (if t then words_from a (w - a) ∷ [] else []) ++ runs_where test b (size - b)) e)
    by false e =
        let none_left : w ≤ a = ltb-false a w e in
        let same : a ≡ w = omega arith in
        ap (λ i. runs_where test i (size - i)) same ∙ rest
        ∙ sym (ap (λ t. (if t then words_from a (w - a) ∷ [] else []) ++ runs_where test b (size - b)) e)

-- words that pass up to the last one
pub runs_last : (test : ℕ → Bool) (size a : ℕ) → a ≤ size → ((v : ℕ) → a ≤ v → v < size → test v ≡ true)
    → runs_where test a (size - a) ≡ run_between a size
runs_last test size a l all = by (nat_lt a size) refl
  where
    by : (t : Bool) → nat_lt a size ≡ t → runs_where test a (size - a) ≡ run_between a size
    by true e =
        let first : a < size = ltb-true a size e in
        let count : suc (size - a - 1) ≡ size - a = omega arith in
        runs_front test a (size - a - 1) (size - a) 0 (omega arith) (λ v p q. all v p (omega arith)) (λ p. absurd (omega arith))
        ∙ ap (λ i. words_from a i ∷ []) count
        ∙ sym (ap (λ t. if t then words_from a (size - a) ∷ [] else []) e)
    by false e =
        let none_left : size ≤ a = ltb-false a size e in
        let none : size - a ≡ 0 = omega arith in
        ap (runs_where test a) none ∙ sym (ap (λ t. if t then words_from a (size - a) ∷ [] else []) e)

-- runs of words of RAM lie in RAM
in-ram-with : (a : ℕ) (runs : List Span) → a + 1 ≤ most_words → AreInRam runs → AreInRam (with_word a runs)
in-ram-with a [] l p = (l, tt)
in-ram-with a (s ∷ ss) l p = by (s.first == a + 1) refl
  where
    by : (t : Bool) → (s.first == a + 1) ≡ t → AreInRam (if t then words_from a (s.count + 1) ∷ ss else words_from a 1 ∷ s ∷ ss)
    by true e = let same = eqb-true s.first (a + 1) e in let fits = p.0 in (omega (arith, same, fits), p.1)
    by false e = (l, p)

pub in-ram : (test : ℕ → Bool) (a n : ℕ) → a + n ≤ most_words → AreInRam (runs_where test a n)
in-ram test a zero l = tt
in-ram test a (suc n) l = elim (test a) as (λ t. AreInRam (if t then with_word a (runs_where test (a + 1) n) else runs_where test (a + 1)
    n)) [
      | true ↦ in-ram-with a (runs_where test (a + 1) n) (omega arith) (in-ram test (a + 1) n (omega arith))
      | false ↦ in-ram test (a + 1) n (omega arith)
    ]

-- a word that lies in runs with one more word in front, and the other way round
covers_to : (first count w : ℕ) → first ≤ w → w < first + count → covers first count w ≡ true
covers_to first count w l u = and_from (nat_le first w) (nat_lt (w - first) count) (le-leb first w l)
    (lt-ltb (w - first) count (omega arith))

lies-from-with : (a w : ℕ) (runs : List Span) → lies_in (with_word a runs) w ≡ true → (w ≡ a) ⊎ (lies_in runs w ≡ true)
lies-from-with a w [] p = elim (or_cases (covers a 1 w) false p) [
  | inl e ↦ let q = covers_from a 1 w e in let q0 = q.0 in let q1 = q.1 in inl (omega arith)
  | inr e ↦ absurd (let z : ⊥ = cc in z)
]
lies-from-with a w (s ∷ ss) p = by (s.first == a + 1) refl p
  where
    longer : s.first ≡ a + 1 → (w ≡ a) ⊎ (a ≡ w → ⊥) → covers a (s.count + 1) w ≡ true → (w ≡ a) ⊎ (lies_in (s ∷ ss) w ≡ true)
    longer e (inl same) c = inl same
    longer e (inr other) c =
        let q = covers_from a (s.count + 1) w c in let q0 = q.0 in let q1 = q.1 in
        inr (or_left (covers_word s w) (lies_in ss w) (covers_to s.first s.count w (omega arith) (omega arith)))

    by : (t : Bool) → (s.first == a + 1) ≡ t → lies_in (if t then words_from a (s.count + 1) ∷ ss else words_from a 1 ∷ s ∷ ss) w ≡ true →
        (w ≡ a) ⊎ (lies_in (s ∷ ss) w ≡ true)
    by true e p = elim (or_cases (covers a (s.count + 1) w) (lies_in ss w) p) [
      | inl c ↦ longer (eqb-true s.first (a + 1) e) (elim (cases_eq a w) [ inl same ↦ inl (sym same) | inr other ↦ inr other ]) c
      | inr l ↦ inr (or_right (covers_word s w) (lies_in ss w) l)
    ]
    by false e p = elim (or_cases (covers a 1 w) (lies_in (s ∷ ss) w) p) [
      | inl c ↦ let q = covers_from a 1 w c in let q0 = q.0 in let q1 = q.1 in inl (omega arith)
      | inr l ↦ inr l
    ]

lies-front : (a : ℕ) (runs : List Span) → lies_in (with_word a runs) a ≡ true
lies-front a [] = or_left (covers a 1 a) false (covers_to a 1 a (omega arith) (omega arith))
lies-front a (s ∷ ss) = by (s.first == a + 1)
  where
    by : (t : Bool) → lies_in (if t then words_from a (s.count + 1) ∷ ss else words_from a 1 ∷ s ∷ ss) a ≡ true
    by true = or_left (covers a (s.count + 1) a) (lies_in ss a) (covers_to a (s.count + 1) a (omega arith) (omega arith))
    by false = or_left (covers a 1 a) (lies_in (s ∷ ss) a) (covers_to a 1 a (omega arith) (omega arith))

lies-to-with : (a w : ℕ) (runs : List Span) → lies_in runs w ≡ true → lies_in (with_word a runs) w ≡ true
lies-to-with a w [] p = absurd (let z : ⊥ = cc in z)
lies-to-with a w (s ∷ ss) p = by (s.first == a + 1) refl
  where
    by : (t : Bool) → (s.first == a + 1) ≡ t → lies_in (if t then words_from a (s.count + 1) ∷ ss else words_from a 1 ∷ s ∷ ss) w ≡ true
    by true e = elim (or_cases (covers_word s w) (lies_in ss w) p) [
      | inl c ↦
          let q = covers_from s.first s.count w c in let q0 = q.0 in let q1 = q.1 in let f = eqb-true s.first (a + 1) e in
          or_left (covers a (s.count + 1) w) (lies_in ss w) (covers_to a (s.count + 1) w (omega arith) (omega arith))
      | inr l ↦ or_right (covers a (s.count + 1) w) (lies_in ss w) l
    ]
    by false e = or_right (covers a 1 w) (lies_in (s ∷ ss) w) p

-- just the words that pass lie in the runs
pub lies-from : (test : ℕ → Bool) (a n w : ℕ) → lies_in (runs_where test a n) w ≡ true → test w ≡ true
lies-from test a zero w p = absurd (let z : ⊥ = cc in z)
lies-from test a (suc n) w p = elim (test a) as
    (λ t. test a ≡ t → lies_in (if t then with_word a (runs_where test (a + 1) n) else runs_where test (a + 1) n) w ≡ true
    → test w ≡ true) [
      | true ↦ λ e q. elim (lies-from-with a w (runs_where test (a + 1) n) q) [
        | inl same ↦ ap test same ∙ e
        | inr l ↦ lies-from test (a + 1) n w l
      ]
      | false ↦ λ e q. lies-from test (a + 1) n w q
    ] refl p

lies-here : (test : ℕ → Bool) (a n w : ℕ) → a ≡ w → test w ≡ true → lies_in (runs_where test a (suc n)) w ≡ true
lies-here test a n w same p = by (test a) refl
  where
    by : (t : Bool) → test a ≡ t → lies_in (if t then with_word a (runs_where test (a + 1) n) else runs_where test (a + 1) n) w ≡ true
    by true e = subst (λ v. lies_in (with_word a (runs_where test (a + 1) n)) v ≡ true) same (lies-front a (runs_where test (a + 1) n))
    by false e = absurd (let z : test a ≡ true = ap test same ∙ p in let y : ⊥ = cc in y)

lies-later : (test : ℕ → Bool) (a n w : ℕ) → lies_in (runs_where test (a + 1) n) w ≡ true → lies_in (runs_where test a (suc n)) w ≡ true
lies-later test a n w q = elim (test a) as (λ t. lies_in (if t then with_word a (runs_where test (a + 1) n) else runs_where test (a + 1) n)
    w ≡ true) [
      | true ↦ lies-to-with a w (runs_where test (a + 1) n) q
      | false ↦ q
    ]

pub lies-to : (test : ℕ → Bool) (a n w : ℕ) → a ≤ w → w < a + n → test w ≡ true → lies_in (runs_where test a n) w ≡ true
lies-to test a zero w l u p = absurd (omega arith)
lies-to test a (suc n) w l u p = elim (cases_eq a w) [
  | inl same ↦ lies-here test a n w same p
  | inr other ↦ lies-later test a n w (lies-to test (a + 1) n w (omega arith) (omega arith) p)
]

-- the run at a place of a list
pub in-ram-at : (runs : List Span) (i : ℕ) (s : Span) → AreInRam runs → slice_get runs i ≡ Some s → s.first + s.count ≤ most_words
in-ram-at [] i s p e = absurd (let z : ⊥ = cc in z)
in-ram-at (r ∷ rs) zero s p e = let same : r ≡ s = cc in subst (λ (x : Span). x.first + x.count ≤ most_words) same p.0
in-ram-at (r ∷ rs) (suc i) s p e = in-ram-at rs i s p.1 e

-- how many words the runs of a list have together, one place on
pub words_more : (runs : List Span) (i : ℕ) (s : Span) → slice_get runs i ≡ Some s
    → words_of (take (i + 1) runs) ≡ words_of (take i runs) + s.count
words_more runs i s e =
    sum_by_more (λ (x : Span). x.count) runs i s (slice_get_within runs i s e)
    ∙ ap (λ (x : Span). words_of (take i runs) + x.count) (get_or_from_slice_get runs i s s e)
