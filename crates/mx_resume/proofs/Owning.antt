-- Owners that are given run by run.
use Rattle.std.proofs.Common.{◌≡◌, ℕ, ◌+◌, ◌<◌, ◌≤◌, ⊎_elim, true, List, [], ◌∷◌, ◌++◌, length, replicate, Option, Some, None, refl, sym}
use Rattle.std.proofs.Common.{ap, ◌∙◌, arith}
use Rattle.std.proofs.lemmas.Bool.{cases_lt}
use Rattle.mx_words.specs.Newest.{Laid, laid, owners}
use Rattle.mx_words.specs.Runs.{Run, most_owner_runs, owner_runs}
use Rattle.mx_words.proofs.OverlayLaws.{length-owners, none-given, owners-append}
use Rattle.mx_snapshot.specs.Fields.{owner_run_in}
use Rattle.mx_snapshot.specs.Reader.{Took}
use Rattle.mx_snapshot.specs.Resumed.{laid_runs}
use Rattle.mx_snapshot.specs.Rules.{run_words}
use Rattle.mx_snapshot.specs.Stored.{Head}
use Rattle.mx_snapshot.proofs.ValidRuns.{laid_runs-more, owners-few, owners-whole}
use Rattle.mx_resume.specs.declared.maps.Extent.{Extent}
use Rattle.mx_resume.specs.Extents.{IsExtent, fills, last_value}
use Rattle.mx_resume.proofs.Lists.{Left, left_all, left_next}
use Rattle.mx_resume.proofs.Places.{count_more, fills_inside, fills_last, value_more}
use Rattle.mx_snapshot.proofs.CodecBounds.{run_words_more as words_more}

-- so many runs are read, have so many words, and are given
pub record IsGiven (h : Head) (bytes : List ℕ) (runs start read : ℕ) (last : Option ℕ) (words : ℕ) (os : List ℕ) (at : ℕ) : Type 0 where
  pub before : List (Run ℕ)
  pub long : length before ≡ read
  pub filled : run_words before ≡ words
  pub inside : words ≤ h.words
  pub value : last_value before ≡ last
  pub given : os ≡ owners (laid_runs 0 before) h.words
  pub left : Left (owner_run_in h runs) bytes runs start read before at

pub given-none : (h : Head) (bytes : List ℕ) (runs start : ℕ) (os : List ℕ) → os ≡ replicate h.words 0
    → IsGiven h bytes runs start 0 None 0 os start
given-none h bytes runs start os e = record {
  before = [];
  long = refl;
  filled = refl;
  inside = omega arith;
  value = refl;
  given = e ∙ sym (none-given h.words);
  left = left_all (owner_run_in h runs) bytes runs start;
}

-- a run laid over the words behind the runs before it
laid-next : (words : ℕ) (before : List (Run ℕ)) (r : Run ℕ) →
    laid (let e : Laid ℕ = record { first = run_words before; count = r.count; value = r.value } in e) (owners (laid_runs 0 before) words)
    ≡ owners (laid_runs 0 (before ++ r ∷ [])) words
laid-next words before r =
    sym (owners-append (laid_runs 0 before) (let e : Laid ℕ = record { first = run_words before; count = r.count; value = r.value } in e)
    words)
    ∙ ap (λ (es : List (Laid ℕ)). owners es words) (again ∙ sym (laid_runs-more 0 before r))
  where
    zero_more : (n : ℕ) → n ≡ 0 + n
    zero_more n = omega arith

    again : laid_runs 0 before ++ (let e : Laid ℕ = record { first = run_words before; count = r.count; value = r.value } in e) ∷ []
        ≡ laid_runs 0 before ++ (let e : Laid ℕ = record { first = 0 + run_words before; count = r.count; value = r.value } in e) ∷ []
    again = ap (λ (n : ℕ). laid_runs 0 before ++ (let e : Laid ℕ = record { first = n; count = r.count; value = r.value } in e) ∷ [])
        (zero_more (run_words before))

pub extent-of : (h : Head) (bytes : List ℕ) (runs start read : ℕ) (last : Option ℕ) (words : ℕ) (os : List ℕ) (at : ℕ)
    (g : IsGiven h bytes runs start read last words os at) → IsExtent g.before (let e : Extent =
    record { runs = runs; read = read; words = words } in e)
extent-of h bytes runs start read last words os at g = record { read = g.long; words = g.filled }

module _ (h : Head) (bytes : List ℕ) (runs start read : ℕ) (last : Option ℕ) (words : ℕ) (os : List ℕ) (at : ℕ)
    (g : IsGiven h bytes runs start read last words os at) (r : Run ℕ) (place : fills h.words runs read words r.count ≡ true) where
  pub over : laid (let e : Laid ℕ = record { first = words; count = r.count; value = r.value } in e) os
      ≡ owners (laid_runs 0 (g.before ++ r ∷ [])) h.words
  over =
      ap (λ (n : ℕ). laid (let e : Laid ℕ = record { first = n; count = r.count; value = r.value } in e) os) (sym g.filled)
      ∙ ap (laid (let e : Laid ℕ = record { first = run_words g.before; count = r.count; value = r.value } in e)) g.given
      ∙ laid-next h.words g.before r

  pub run-inside : (0 < r.count) × (words + r.count ≤ h.words)
  run-inside = fills_inside h.words runs read words r.count place

  pub in-ram : words + r.count ≤ length os
  in-ram =
      let fits = run-inside.1 in
      let long : length os ≡ h.words = ap length g.given ∙ length-owners (laid_runs 0 g.before) h.words in
      omega (arith, fits, long)

  pub few-given : read < runs → runs ≤ most_owner_runs → owner_runs
      (laid (let e : Laid ℕ = record { first = words; count = r.count; value = r.value } in e) os) ≤ most_owner_runs
  few-given lt few =
      let all = g.before ++ r ∷ [] in
      let same = ap owner_runs over in
      let long = count_more g.before r in
      let so_far = g.long in
      let filled : run_words all ≡ words + r.count = words_more g.before r ∙ ap (λ (n : ℕ). n + r.count) g.filled in
      let fits = run-inside.1 in
      ⊎_elim
      (λ (more : read + 1 < runs). (let runs_few = owners-few all h.words (omega (arith, filled, fits)) in
      let q : owner_runs (laid (let e : Laid ℕ = record { first = words; count = r.count; value = r.value } in e) os) ≤ most_owner_runs =
      omega (arith, same, runs_few, long, so_far, more, few) in q))
      (λ (no_more : runs ≤ read + 1). (let ends = fills_last h.words runs read words r.count (omega (arith, no_more, lt)) place in
      let runs_few = owners-whole all h.words (filled ∙ ends) in
      let q : owner_runs (laid (let e : Laid ℕ = record { first = words; count = r.count; value = r.value } in e) os) ≤ most_owner_runs =
      omega (arith, same, runs_few, long, so_far, lt, few) in q))
      (cases_lt (read + 1) runs)

  pub given-next : (now : ℕ) (os_now : List ℕ) → read < runs → owner_run_in h runs g.before bytes at ≡ Took r now
      → os_now ≡ laid (let e : Laid ℕ = record { first = words; count = r.count; value = r.value } in e) os
      → IsGiven h bytes runs start (read + 1) (Some r.value) (words + r.count) os_now now
  given-next now os_now lt e put = record {
    before = g.before ++ r ∷ [];
    long = count_more g.before r ∙ ap (λ (k : ℕ). k + 1) g.long;
    filled = words_more g.before r ∙ ap (λ (n : ℕ). n + r.count) g.filled;
    inside = run-inside.1;
    value = value_more g.before r;
    given = put ∙ over;
    left = left_next lt g.left e;
  }
