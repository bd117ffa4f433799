-- Runs laid over their words: what they cover, the maps and owners that they give, and the rows of their spans.
use Rattle.std.proofs.Common.{◌≡◌, ℕ, zero, suc, ◌+◌, ◌-◌, ◌<◌, ◌≤◌, ◌==◌, Bool, true, false, cond, List, [], ◌∷◌, ◌++◌, length, get_or}
use Rattle.std.proofs.Common.{replicate, refl, sym, ap, ◌∙◌, subst, arith, append_assoc, length-append, ⊎_elim}
use Rattle.std.proofs.Common.{map as list_map}
use Rattle.std.specs.List.{AllByRecursion, range_with_len}
use Rattle.std.proofs.lemmas.Bool.{cases_lt, eq-eqb, eqb-true}
use Rattle.std.proofs.lemmas.List.{append-nil, ext_get_or, get_or-append_right, get_or-replicate, get_or_append_left, get_or_past}
use Rattle.std.proofs.lemmas.List.{length-replicate}
use Rattle.std.proofs.lemmas.List.FromFn.{get_or-map-range_with_len, length-map-range_with_len}
use Rattle.std.proofs.lemmas.List.Sums.{sum_by-cons, sum_by_push}
use Rattle.mx_words.specs.declared.perm.Perm.{Perm}
use Rattle.mx_words.specs.declared.perm.Perm.TheVariants as P
use Rattle.mx_words.specs.declared.perm.Span.{Span}
use Rattle.mx_words.specs.Newest.{Laid, laid_at, map, newest, owners}
use Rattle.mx_words.specs.Ranges.{covers}
use Rattle.mx_words.specs.Rights.{same}
use Rattle.mx_words.specs.Runs.{Run, owner_runs, run_before, runs_of}
use Rattle.mx_words.proofs.MaximalRuns.{IsEquality, covered}
use Rattle.mx_words.proofs.OverlayLaws.{laid_at_behind, laid_at_below, laid_at_in}
use Rattle.mx_words.proofs.RunLaws.{same_eq}
use Rattle.mx_table.specs.Tables.{IsRow, granted, no_span, row_map}
use Rattle.mx_snapshot.specs.Resumed.{laid_runs}
use Rattle.mx_snapshot.specs.Resuming.{spans_in}
use Rattle.mx_snapshot.specs.Rules.{run_words}

-- a run laid over its words from a word on
abbrev pub entry_of : {A : Type 0} → ℕ → Run A → Laid A
entry_of first r = record { first = first; count = r.count; value = r.value }

-- the words of runs
pub run_words-cons : {A : Type 0} (r : Run A) (rs : List (Run A)) → run_words (r ∷ rs) ≡ r.count + run_words rs
run_words-cons r rs = sum_by-cons (λ x. x.count) r rs

pub run_words-more : {A : Type 0} (rs : List (Run A)) (r : Run A) → run_words (rs ++ r ∷ []) ≡ run_words rs + r.count
run_words-more rs r = sum_by_push (λ x. x.count) rs r

pub length-covered : {A : Type 0} (rs : List (Run A)) → length (covered rs) ≡ run_words rs
length-covered [] = refl
length-covered (r ∷ rs) = length-append (replicate r.count r.value) (covered rs)
    ∙ ap (λ n. n + length (covered rs)) (length-replicate r.count r.value) ∙ ap (λ n. r.count + n) (length-covered rs)
    ∙ sym (run_words-cons r rs)

-- one more run
pub laid_runs-more : {A : Type 0} (a : ℕ) (rs : List (Run A)) (r : Run A)
    → laid_runs a (rs ++ r ∷ []) ≡ laid_runs a rs ++ entry_of (a + run_words rs) r ∷ []
laid_runs-more a [] r = let e : a ≡ a + 0 = omega arith in ap (λ k. entry_of k r ∷ []) e
laid_runs-more a (q ∷ rs) r =
    let words = run_words-cons q rs in
    let e : a + q.count + run_words rs ≡ a + run_words (q ∷ rs) = omega (arith, words) in
    ap (λ es. entry_of a q ∷ es) (laid_runs-more (a + q.count) rs r ∙ ap (λ k. laid_runs (a + q.count) rs ++ entry_of k r ∷ []) e)

-- below the first run nothing is laid
newest-below : {A : Type 0} (d : A) (a i : ℕ) (rs : List (Run A)) → i < a → newest d (laid_runs a rs) i ≡ d
newest-below d a i [] lt = refl
newest-below d a i (r ∷ rs) lt =
    ap (λ x. newest x (laid_runs (a + r.count) rs) i) (laid_at_below i d (entry_of a r) lt)
    ∙ newest-below d (a + r.count) i rs (omega arith)

-- at word a + i lies what the runs cover at place i
pub newest-covered : {A : Type 0} (d : A) (a i : ℕ) (rs : List (Run A)) → newest d (laid_runs a rs) (a + i) ≡ get_or (covered rs) i d
newest-covered d a i [] = refl
newest-covered {A} d a i (r ∷ rs) =
    let front : List A = replicate r.count r.value in
    let long : length front ≡ r.count = length-replicate r.count r.value in
    let later = newest-covered d (a + r.count) (i - r.count) rs in
    ⊎_elim
    (λ (lt : i < r.count).
    ap (λ x. newest x (laid_runs (a + r.count) rs) (a + i)) (laid_at_in (a + i) d (entry_of a r) (omega arith) (omega arith))
    ∙ newest-below r.value (a + r.count) (a + i) rs (omega arith)
    ∙ sym (get_or_append_left front (covered rs) d i (omega (arith, long)) ∙ get_or-replicate r.count i r.value d lt))
    (λ (le : r.count ≤ i).
    let e : a + i ≡ a + r.count + (i - r.count) = omega arith in
    ap (λ x. newest x (laid_runs (a + r.count) rs) (a + i)) (laid_at_behind (a + i) d (entry_of a r) (omega arith))
    ∙ ap (newest d (laid_runs (a + r.count) rs)) e
    ∙ later
    ∙ sym (get_or-append_right front (covered rs) r.count i d long le))
    (cases_lt i r.count)

newest-first : {A : Type 0} (d : A) (i : ℕ) (rs : List (Run A)) → newest d (laid_runs 0 rs) i ≡ get_or (covered rs) i d
newest-first d i rs = let e : i ≡ 0 + i = omega arith in ap (newest d (laid_runs 0 rs)) e ∙ newest-covered d 0 i rs

-- the default behind a list
pub get_or-behind : {A : Type 0} (xs : List A) (k i : ℕ) (d : A) → get_or (xs ++ replicate k d) i d ≡ get_or xs i d
get_or-behind xs k i d = ⊎_elim
    (λ (lt : i < length xs). get_or_append_left xs (replicate k d) d i lt)
    (λ (le : length xs ≤ i).
    get_or-append_right xs (replicate k d) (length xs) i d refl le ∙ everywhere (i - length xs) ∙ sym (get_or_past xs i d le))
    (cases_lt i (length xs))
  where
    everywhere : (j : ℕ) → get_or (replicate k d) j d ≡ d
    everywhere j = ⊎_elim (λ (lt : j < k). get_or-replicate k j d d lt)
        (λ (le : k ≤ j). get_or_past (replicate k d) j d (omega (arith, length-replicate k d, le))) (cases_lt j k)

-- the values of all words, of which k lie behind the runs
laid-all : {A : Type 0} (d : A) (rs : List (Run A)) (words k : ℕ) → run_words rs + k ≡ words
    → list_map (newest d (laid_runs 0 rs)) (range_with_len 0 words) ≡ covered rs ++ replicate k d
laid-all d rs words k e =
    let long = length-map-range_with_len (newest d (laid_runs 0 rs)) 0 words in
    let other : length (covered rs ++ replicate k d) ≡ words =
    length-append (covered rs) (replicate k d) ∙ ap (λ n. n + length (replicate k d)) (length-covered rs)
    ∙ ap (λ n. run_words rs + n) (length-replicate k d) ∙ e in
    ext_get_or d (list_map (newest d (laid_runs 0 rs)) (range_with_len 0 words)) (covered rs ++ replicate k d) (long ∙ sym other)
    (λ i lt. get_or-map-range_with_len (newest d (laid_runs 0 rs)) 0 words i i d (omega (arith, long, lt)) (omega arith)
    ∙ newest-first d i rs ∙ sym (get_or-behind (covered rs) k i d))

pub laid-whole : {A : Type 0} (d : A) (rs : List (Run A)) (words : ℕ) → run_words rs ≡ words
    → list_map (newest d (laid_runs 0 rs)) (range_with_len 0 words) ≡ covered rs
laid-whole d rs words e = laid-all d rs words 0 (omega (arith, e)) ∙ append-nil (covered rs)

-- maps and owners of runs that cover all words
pub map-covered : (rs : List (Run Perm)) (words : ℕ) → run_words rs ≡ words → map (laid_runs 0 rs) words ≡ covered rs
map-covered rs words e = laid-whole P.None rs words e

pub owners-covered : (rs : List (Run ℕ)) (words : ℕ) → run_words rs ≡ words → owners (laid_runs 0 rs) words ≡ covered rs
owners-covered rs words e = laid-whole 0 rs words e

-- a test of equality that each value passes with itself
pub nat-equality : IsEquality (λ (a b : ℕ). a == b)
nat-equality = record { sound = λ x y e. eqb-true x y e }

pub perm-equality : IsEquality same
perm-equality = record { sound = λ p q e. same_eq p q e }

-- maximal runs that begin with a value, and then no more than so many
record Begins {A : Type 0} (v : A) (most : ℕ) (qs : List (Run A)) : Type 0 where
  count : ℕ
  rest : List (Run A)
  is : qs ≡ record { count = count; value = v } ∷ rest
  few : length rest ≤ most

begins-first : {A : Type 0} (eq : A → A → Bool) (v : A) (qs : List (Run A)) → Begins v (length qs) (run_before eq v qs)
begins-first eq v [] = record { count = 1; rest = []; is = refl; few = omega arith }
begins-first eq v (q ∷ qs) = elim (eq v q.value) as
    (λ b. Begins v (suc (length qs)) (cond b (record { count = q.count + 1; value = v } ∷ qs) (record { count = 1; value = v } ∷ q ∷ qs))) [
      | true ↦ record { count = q.count + 1; rest = qs; is = refl; few = omega arith }
      | false ↦ record { count = 1; rest = q ∷ qs; is = refl; few = omega arith }
    ]

begins-again : {A : Type 0} (eq : A → A → Bool) (v : A) (most : ℕ) (qs : List (Run A)) → eq v v ≡ true → Begins v most qs
    → Begins v most (run_before eq v qs)
begins-again eq v most qs e b = record {
  count = b.count + 1;
  rest = b.rest;
  is = ap (run_before eq v) b.is
      ∙ ap (λ t. cond t (record { count = b.count + 1; value = v } ∷ b.rest)
      (record { count = 1; value = v } ∷ record { count = b.count; value = v } ∷ b.rest)) e;
  few = b.few;
}

begins-front : {A : Type 0} (eq : A → A → Bool) (v : A) (c : ℕ) (ys : List A) → eq v v ≡ true
    → Begins v (length (runs_of eq ys)) (runs_of eq (replicate (suc c) v ++ ys))
begins-front eq v zero ys e = begins-first eq v (runs_of eq ys)
begins-front eq v (suc c) ys e = begins-again eq v (length (runs_of eq ys)) (runs_of eq (replicate (suc c) v ++ ys)) e
    (begins-front eq v c ys e)

-- equal values in front add at most one run
runs-front : {A : Type 0} (eq : A → A → Bool) (v : A) (c : ℕ) (ys : List A) → eq v v ≡ true
    → length (runs_of eq (replicate c v ++ ys)) ≤ length (runs_of eq ys) + 1
runs-front eq v zero ys e = omega arith
runs-front eq v (suc c) ys e =
    let b = begins-front eq v c ys e in
    let n : length (runs_of eq (replicate (suc c) v ++ ys)) ≡ suc (length b.rest) = ap length b.is in
    let few = b.few in
    omega (arith, n, few)

runs-covered : {A : Type 0} (eq : A → A → Bool) (rs : List (Run A)) (zs : List A) → ((x : A) → eq x x ≡ true)
    → length (runs_of eq (covered rs ++ zs)) ≤ length rs + length (runs_of eq zs)
runs-covered eq [] zs h = omega arith
runs-covered {A} eq (r ∷ rs) zs h =
    let e = ap (λ (xs : List A). length (runs_of eq xs)) (append_assoc (replicate r.count r.value) (covered rs) zs) in
    let here = runs-front eq r.value r.count (covered rs ++ zs) (h r.value) in
    let rest = runs-covered eq rs zs h in
    omega (arith, e, here, rest)

pub nat-itself : (x : ℕ) → (x == x) ≡ true
nat-itself x = eq-eqb x x refl

-- owners of runs that are given one after another
pub owners-few : (rs : List (Run ℕ)) (words : ℕ) → run_words rs ≤ words → owner_runs (owners (laid_runs 0 rs) words) ≤ length rs + 1
owners-few rs words le =
    let k = words - run_words rs in
    let e = ap owner_runs (laid-all 0 rs words k (omega arith)) in
    let one = runs-front (λ (a b : ℕ). a == b) 0 k [] refl in
    let nothing = ap (λ xs. length (runs_of (λ (a b : ℕ). a == b) xs)) (append-nil (replicate k 0)) in
    let all = runs-covered (λ (a b : ℕ). a == b) rs (replicate k 0) nat-itself in
    omega (arith, e, one, nothing, all)

pub owners-whole : (rs : List (Run ℕ)) (words : ℕ) → run_words rs ≡ words → owner_runs (owners (laid_runs 0 rs) words) ≤ length rs
owners-whole rs words whole =
    let e = ap owner_runs (owners-covered rs words whole) in
    let nothing = ap (λ xs. length (runs_of (λ (a b : ℕ). a == b) xs)) (append-nil (covered rs)) in
    let all = runs-covered (λ (a b : ℕ). a == b) rs [] nat-itself in
    omega (arith, e, nothing, all)

-- the spans of a row as grants lay what the runs lay
spans-below : (x : Perm) (a i : ℕ) (rs : List (Run Perm)) → i < a → newest x (list_map granted (spans_in a rs)) i ≡ x
spans-below x a i [] lt = refl
spans-below x a i (r ∷ rs) lt =
    let later = spans-below x (a + r.count) i rs (omega arith) in
    let span : Span = record { first = a; count = r.count; perm = r.value } in
    elim (same r.value P.None) as (λ b. newest x (list_map granted (cond b (spans_in (a + r.count) rs) (span ∷ spans_in (a + r.count) rs)))
    i ≡ x) [
      | true ↦ later
      | false ↦ ap (λ y. newest y (list_map granted (spans_in (a + r.count) rs)) i) (laid_at_below i x (entry_of a r) lt) ∙ later
    ]

no-rights : (i : ℕ) (e : Laid Perm) → e.value ≡ P.None → laid_at i P.None e ≡ P.None
no-rights i e none = elim (covers e.first e.count i) as (λ b. cond b e.value P.None ≡ P.None) [ true ↦ none | false ↦ refl ]

spans-newest : (a i : ℕ) (rs : List (Run Perm)) → newest P.None (list_map granted (spans_in a rs)) i ≡ newest P.None (laid_runs a rs) i
spans-newest a i [] = refl
spans-newest a i (r ∷ rs) =
    let span : Span = record { first = a; count = r.count; perm = r.value } in
    let later = spans-newest (a + r.count) i rs in
    let value = laid_at i P.None (entry_of a r) in
    let others = λ (b : Bool). newest P.None (list_map granted (cond b (spans_in (a + r.count) rs) (span ∷ spans_in (a + r.count) rs))) i in
    ⊎_elim
    (λ (lt : i < a + r.count).
    elim (same r.value P.None) as (λ b. same r.value P.None ≡ b → others b ≡ newest value (laid_runs (a + r.count) rs) i) [
      | true ↦ λ e. spans-below P.None (a + r.count) i rs lt ∙ sym (newest-below value (a + r.count) i rs lt
          ∙ no-rights i (entry_of a r) (same_eq r.value P.None e))
      | false ↦ λ e. spans-below value (a + r.count) i rs lt ∙ sym (newest-below value (a + r.count) i rs lt)
    ] refl)
    (λ (le : a + r.count ≤ i).
    let none : value ≡ P.None = laid_at_behind i P.None (entry_of a r) le in
    elim (same r.value P.None) as (λ b. others b ≡ newest value (laid_runs (a + r.count) rs) i) [
      | true ↦ later ∙ sym (ap (λ x. newest x (laid_runs (a + r.count) rs) i) none)
      | false ↦ ap (λ x. newest x (list_map granted (spans_in (a + r.count) rs)) i) none ∙ later
          ∙ sym (ap (λ x. newest x (laid_runs (a + r.count) rs) i) none)
    ])
    (cases_lt i (a + r.count))

pub row-same : (rs : List (Run Perm)) (words : ℕ) → row_map words (spans_in 0 rs) ≡ map (laid_runs 0 rs) words
row-same rs words =
    let one = newest P.None (list_map granted (spans_in 0 rs)) in
    let other = newest P.None (laid_runs 0 rs) in
    let long = length-map-range_with_len one 0 words in
    ext_get_or P.None (list_map one (range_with_len 0 words)) (list_map other (range_with_len 0 words)) (long
    ∙ sym (length-map-range_with_len other 0 words))
    (λ i lt. get_or-map-range_with_len one 0 words i i P.None (omega (arith, long, lt)) (omega arith) ∙ spans-newest 0 i rs
    ∙ sym (get_or-map-range_with_len other 0 words i i P.None (omega (arith, long, lt)) (omega arith)))

-- spans of at least one word, in the order of their words and apart, from word `low` on and before word `high`
abbrev InOrder : ℕ → ℕ → List Span → Type 0
InOrder low high [] = low ≤ high
InOrder low high (s ∷ row) = (low ≤ s.first) × (0 < s.count) × InOrder (s.first + s.count) high row

in-order : (low a high : ℕ) (rs : List (Run Perm)) → low ≤ a → AllByRecursion (λ (r : Run Perm). 0 < r.count) rs → a + run_words rs ≤ high
    → InOrder low high (spans_in a rs)
in-order low a high [] le some fits = omega (arith, le, fits)
in-order low a high (r ∷ rs) le some fits =
    let words = run_words-cons r rs in
    let rest : a + r.count + run_words rs ≤ high = omega (arith, words, fits) in
    let span : Span = record { first = a; count = r.count; perm = r.value } in
    elim (same r.value P.None) as (λ b. InOrder low high (cond b (spans_in (a + r.count) rs) (span ∷ spans_in (a + r.count) rs))) [
      | true ↦ in-order low (a + r.count) high rs (omega (arith, le)) some.1 rest
      | false ↦ (le, some.0, in-order (a + r.count) (a + r.count) high rs (omega arith) some.1 rest)
    ]

order-ends : (low high : ℕ) (row : List Span) → InOrder low high row → low ≤ high
order-ends low high [] o = o
order-ends low high (s ∷ row) o = let le = o.0 in let rest = order-ends (s.first + s.count) high row o.2 in omega (arith, le, rest)

order-some : (low high : ℕ) (row : List Span) → InOrder low high row → (i : ℕ) → i < length row → 0 < (get_or row i no_span).count
order-some low high [] o i lt = absurd (let q : ⊥ = omega (arith, lt) in q)
order-some low high (s ∷ row) o zero lt = o.1
order-some low high (s ∷ row) o (suc i) lt = order-some (s.first + s.count) high row o.2 i (omega (arith, lt))

order-sorted : (low high : ℕ) (row : List Span) → InOrder low high row → (i : ℕ) → suc i < length row
    → (get_or row i no_span).first + (get_or row i no_span).count ≤ (get_or row (suc i) no_span).first
order-sorted low high [] o i lt = absurd (let q : ⊥ = omega (arith, lt) in q)
order-sorted low high (s ∷ []) o i lt = absurd (let q : ⊥ = omega (arith, lt) in q)
order-sorted low high (s ∷ t ∷ row) o zero lt = o.2.0
order-sorted low high (s ∷ t ∷ row) o (suc i) lt = order-sorted (s.first + s.count) high (t ∷ row) o.2 i (omega (arith, lt))

order-inside : (low high : ℕ) (row : List Span) → InOrder low high row → (i : ℕ) → i < length row
    → (get_or row i no_span).first + (get_or row i no_span).count ≤ high
order-inside low high [] o i lt = absurd (let q : ⊥ = omega (arith, lt) in q)
order-inside low high (s ∷ row) o zero lt = order-ends (s.first + s.count) high row o.2
order-inside low high (s ∷ row) o (suc i) lt = order-inside (s.first + s.count) high row o.2 i (omega (arith, lt))

pub row-fits : (rs : List (Run Perm)) (words : ℕ) → AllByRecursion (λ (r : Run Perm). 0 < r.count) rs → run_words rs ≤ words
    → IsRow words (spans_in 0 rs)
row-fits rs words some fits =
    let row = spans_in 0 rs in
    let o = in-order 0 0 words rs (omega arith) some (omega (arith, fits)) in
    record {
      some = order-some 0 words row o;
      sorted = λ i lt.
          let one : i + 1 ≡ suc i = omega arith in
          subst (λ k. (get_or row i no_span).first + (get_or row i no_span).count ≤ (get_or row k no_span).first) (sym one)
          (order-sorted 0 words row o i (omega (arith, lt)));
      inside = order-inside 0 words row o;
    }

-- the spans of one more run
pub spans-more : (a : ℕ) (rs : List (Run Perm)) (r : Run Perm)
    → spans_in a (rs ++ r ∷ []) ≡ spans_in a rs ++ spans_in (a + run_words rs) (r ∷ [])
spans-more a [] r = let e : a ≡ a + 0 = omega arith in ap (λ k. spans_in k (r ∷ [])) e
spans-more a (q ∷ rs) r =
    let words = run_words-cons q rs in
    let e : a + q.count + run_words rs ≡ a + run_words (q ∷ rs) = omega (arith, words) in
    let later : spans_in (a + q.count) (rs ++ r ∷ []) ≡ spans_in (a + q.count) rs ++ spans_in (a + run_words (q ∷ rs)) (r ∷ []) =
    spans-more (a + q.count) rs r ∙ ap (λ k. spans_in (a + q.count) rs ++ spans_in k (r ∷ [])) e in
    let span : Span = record { first = a; count = q.count; perm = q.value } in
    elim (same q.value P.None) as
    (λ b. cond b (spans_in (a + q.count) (rs ++ r ∷ [])) (span ∷ spans_in (a + q.count) (rs ++ r ∷ []))
    ≡ cond b (spans_in (a + q.count) rs) (span ∷ spans_in (a + q.count) rs) ++ spans_in (a + run_words (q ∷ rs)) (r ∷ [])) [
      | true ↦ later
      | false ↦ ap (λ (row : List Span). span ∷ row) later
    ]
