-- Words of packed permissions, and the runs of a line.
use Rattle.std.proofs.Common.{◌≡◌, ℕ, zero, suc, ◌+◌, ◌-◌, ◌*◌, ◌/◌, ◌<◌, ◌≤◌, ◌⊎◌, inl, inr, true, false, cond, List, [], ◌∷◌, length}
use Rattle.std.proofs.Common.{take, drop, map, sum_by, slice_index, refl, sym, ◌∙◌, ap, arith, length-drop, get_or-drop, get_or}
use Rattle.std.specs.List.{AllByRecursion}
use Rattle.std.proofs.lemmas.List.{get_or_past, get_or-map, length-map}
use Rattle.std.proofs.lemmas.List.FromFn.{fill_by_all}
use Rattle.std.proofs.lemmas.List.Sums.{sum_by-cons, get_or-le-sum_by, sum_by_more, sum_by-take-le}
use Rattle.mx_words.specs.declared.perm.Perm.{Perm}
use Rattle.mx_words.specs.declared.perm.Perm.TheVariants as P
use Rattle.mx_words.specs.Rights.{number, same, perm_at}
use Rattle.mx_words.specs.Runs.{Run, runs_of, run_before, runs}
use Rattle.mx_words.specs.Reach.{eighths, starts_from}
use Rattle.mx_words.proofs.CountingLaws.{count_below-le}
use Rattle.mx_words.proofs.RunLaws.{runs-count}
use Rattle.mx_words.proofs.MaximalRuns.{some-runs_of}
use Rattle.mx_words.specs.Starts.{is_start}
use Rattle.mx_plain.specs.declared.stored.LineRun.{LineRun}
use Rattle.mx_plain.specs.declared.stored.LineRuns.{LineRuns}
use Rattle.mx_plain.specs.LineRuns.{run_length, run_number, run_in, runs_in, no_run, count_at, IsInLine}

-- a list of the permissions of the first words of a block's parts
pub eighths_are : (size : ℕ) (m : List Perm) (first : ℕ) (ps : List Perm) → length ps ≡ 8
    → ((k : ℕ) → k < 8 → perm_at ps k ≡ perm_at m (first + size / 8 * k)) →
    ps ≡ eighths size m first
eighths_are size m first ps long each = fill_by_all (λ e. perm_at m (first + size / 8 * e)) ps 8 P.None long each

words-before : (p : Perm) (rs : List (Run Perm)) → sum_by run_length (run_before same p rs) ≡ suc (sum_by run_length rs)
words-before p [] = refl
words-before p (r ∷ rs) =
    elim (same p r.value) as (λ b. sum_by run_length (cond b (record { count = r.count + 1; value = p } ∷ rs)
    (record { count = 1; value = p } ∷ r ∷ rs)) ≡ suc (sum_by run_length (r ∷ rs))) [
      | true ↦ omega (arith, sum_by-cons run_length (record { count = r.count + 1; value = p }) rs, sum_by-cons run_length r rs)
      | false ↦ omega (arith, sum_by-cons run_length (record { count = 1; value = p }) (r ∷ rs))
    ]

-- together they are as long as the list
pub words-runs_of : (ps : List Perm) → sum_by run_length (runs_of same ps) ≡ length ps
words-runs_of [] = refl
words-runs_of (p ∷ ps) = words-before p (runs_of same ps) ∙ ap suc (words-runs_of ps)

-- the start of run i is the sum of the lengths before it
pub starts_from-at : (s : ℕ) (rs : List (Run Perm)) (i : ℕ) → i < length rs
    → slice_index (starts_from s rs) i ≡ s + sum_by run_length (take i rs)
starts_from-at s [] i lt = absurd (omega arith)
starts_from-at s (r ∷ rs) zero lt = omega arith
starts_from-at s (r ∷ rs) (suc i) lt =
    let rest = starts_from-at (s + r.count) rs i (omega arith) in
    omega (arith, rest, sum_by-cons run_length r (take i rs))

pub length-starts_from : (s : ℕ) (rs : List (Run Perm)) → length (starts_from s rs) ≡ length rs
length-starts_from s [] = refl
length-starts_from s (r ∷ rs) = ap suc (length-starts_from (s + r.count) rs)

-- kept runs by their places
pub length-runs_in : (rs : LineRuns) → length rs.places ≡ 16 → length (runs_in rs) ≡ 16 - rs.from
length-runs_in rs whole = omega (arith, length-map (drop rs.from rs.places) run_in, length-drop rs.from rs.places)

pub runs_in-at : (rs : LineRuns) (i : ℕ) (d : Run Perm) → length rs.places ≡ 16 → rs.from + i < 16
    → get_or (runs_in rs) i d ≡ run_in (get_or rs.places (rs.from + i) no_run)
runs_in-at rs i d whole lt =
    get_or-map run_in (drop rs.from rs.places) i no_run d (omega (arith, length-drop rs.from rs.places))
    ∙ ap run_in (get_or-drop rs.from rs.places i no_run)

pub number_at : (rs : LineRuns) (i : ℕ) → length rs.places ≡ 16 → rs.from + i < 16
    → number (get_or rs.places (rs.from + i) no_run).perm ≡ slice_index (map run_number (runs_in rs)) i
number_at rs i whole lt =
    sym (get_or-map run_number (runs_in rs) i (run_in no_run) 0 (omega (arith, length-runs_in rs whole))
    ∙ ap run_number (runs_in-at rs i (run_in no_run) whole lt))

-- the runs of fewer than 16 words leave a place free, and none of them has 16 words
module _ (rs : LineRuns) (ps : List Perm) (whole : length rs.places ≡ 16) (are : runs_in rs ≡ runs_of same ps) where
  few_runs : length (runs_in rs) ≤ length ps
  few_runs =
      let e : length (runs_in rs) ≡ runs ps = ap (λ (xs : List (Run Perm)). length xs) are in
      omega (arith, e, runs-count ps, count_below-le (length ps) (is_start ps))

  words_in : sum_by run_length (runs_in rs) ≡ length ps
  words_in = ap (λ (xs : List (Run Perm)). sum_by run_length xs) are ∙ words-runs_of ps

  pub place_left : length ps < 16 → 0 < rs.from
  place_left short = omega (arith, few_runs, length-runs_in rs whole)

  pub count_small : length ps < 16 → (rs.from < 16) ⊎ (16 ≤ rs.from) → count_at rs rs.from < 16
  count_small short (inl h) =
      let none : rs.from + 0 ≡ rs.from = omega arith in
      let most = get_or-le-sum_by run_length (runs_in rs) 0 (run_in no_run) (omega (arith, length-runs_in rs whole)) in
      let at : run_length (get_or (runs_in rs) 0 (run_in no_run)) ≡ count_at rs (rs.from + 0) =
      ap run_length (runs_in-at rs 0 (run_in no_run) whole (omega arith)) in
      let at' : count_at rs (rs.from + 0) ≡ count_at rs rs.from = ap (count_at rs) none in
      omega (arith, most, at, at', words_in)
  count_small short (inr h) =
      let e : count_at rs rs.from ≡ 0 = ap (λ (r : LineRun). r.count) (get_or_past rs.places rs.from no_run (omega arith)) in
      omega arith

some-at : (rs : List (Run Perm)) (i : ℕ) (d : Run Perm) → AllByRecursion (λ (r : Run Perm). 0 < r.count) rs → i < length rs
    → 0 < (get_or rs i d).count
some-at [] i d all lt = absurd (omega arith)
some-at (r ∷ rs) zero d all lt = all.0
some-at (r ∷ rs) (suc i) d all lt = some-at rs i d all.1 (omega arith)

pub in_line : (rs : LineRuns) (ps : List Perm) → length rs.places ≡ 16 → runs_in rs ≡ runs_of same ps → rs.from ≤ 16 → length ps ≡ 16
    → IsInLine rs
in_line rs ps whole are inside long = record {
  whole = whole;
  inside = inside;
  some = λ i from below.
      (let k : ℕ = i - rs.from in
      let sum : rs.from + k ≡ i = omega arith in
      let all : AllByRecursion (λ (r : Run Perm). 0 < r.count) (runs_in rs) = rw are (some-runs_of same ps) in
      let some : 0 < (get_or (runs_in rs) k (run_in no_run)).count =
      some-at (runs_in rs) k (run_in no_run) all (omega (arith, length-runs_in rs whole)) in
      let at : (get_or (runs_in rs) k (run_in no_run)).count ≡ count_at rs (rs.from + k) =
      ap run_length (runs_in-at rs k (run_in no_run) whole (omega arith)) in
      let at' : count_at rs (rs.from + k) ≡ count_at rs i = ap (count_at rs) sum in
      omega (arith, some, at, at'));
  few = (let e = words_in rs ps whole are in omega (arith, e));
}

-- the start of a run that isn't there
pub no_start : (rs : LineRuns) (i : ℕ) → length rs.places ≡ 16 → 16 ≤ rs.from + i → 0 ≡ slice_index (starts_from 0 (runs_in rs)) i
no_start rs i whole past = sym (get_or_past (starts_from 0 (runs_in rs)) i 0
    (omega (arith, length-starts_from 0 (runs_in rs), length-runs_in rs whole)))

-- the sum of the lengths of the runs before a place
abbrev pub words_before : LineRuns → ℕ → ℕ
words_before rs place = sum_by run_length (take (place - rs.from) (runs_in rs))

pub words_more : (rs : LineRuns) (place : ℕ) → IsInLine rs → rs.from ≤ place → place < 16
    → words_before rs (place + 1) ≡ words_before rs place + count_at rs place
words_more rs place line from below =
    let k : ℕ = place - rs.from in
    let next : place + 1 - rs.from ≡ k + 1 = omega arith in
    let at : rs.from + k ≡ place = omega arith in
    let there : k < length (runs_in rs) = omega (arith, length-runs_in rs line.whole) in
    ap (λ n. sum_by run_length (take n (runs_in rs))) next
    ∙ sum_by_more run_length (runs_in rs) k (run_in no_run) there
    ∙ ap (λ n. words_before rs place + n) (ap run_length (runs_in-at rs k (run_in no_run) line.whole (omega arith)) ∙ ap (count_at rs) at)

pub words_most : (rs : LineRuns) (place : ℕ) → IsInLine rs → rs.from ≤ place → place < 16 → words_before rs place + count_at rs place ≤ 16
words_most rs place line from below =
    let few = line.few in
    let up = sum_by-take-le run_length (runs_in rs) (place + 1 - rs.from) in
    omega (arith, words_more rs place line from below, up, few)

pub start_at : (rs : LineRuns) (i : ℕ) → IsInLine rs → rs.from + i < 16
    → words_before rs (rs.from + i) ≡ slice_index (starts_from 0 (runs_in rs)) i
start_at rs i line below =
    let back : rs.from + i - rs.from ≡ i = omega arith in
    let none : sum_by run_length (take i (runs_in rs)) ≡ 0 + sum_by run_length (take i (runs_in rs)) = omega arith in
    ap (λ n. sum_by run_length (take n (runs_in rs))) back ∙ none
    ∙ sym (starts_from-at 0 (runs_in rs) i (omega (arith, length-runs_in rs line.whole)))

pub start_small : (rs : LineRuns) (i : ℕ) → IsInLine rs → rs.from + i < 16 → words_before rs (rs.from + i) < 16
start_small rs i line below = omega (
  arith,
  words_most rs (rs.from + i) line (omega arith) below,
  line.some (rs.from + i) (omega arith)
      below,
)
