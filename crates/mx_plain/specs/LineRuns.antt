-- The runs of a line, kept from the line's end on.
use Rattle.std.specs.Prelude.{◌≡◌, ℕ, ◌<◌, ◌≤◌, List, length, map, drop, slice_index_or, sum_by}
use Rattle.mx_words.specs.declared.perm.Perm.{Perm}
use Rattle.mx_words.specs.declared.perm.Perm.TheVariants as P
use Rattle.mx_words.specs.Rights.{number}
use Rattle.mx_words.specs.Runs.{Run}
use Rattle.mx_plain.specs.declared.stored.LineRun.{LineRun}
use Rattle.mx_plain.specs.declared.stored.LineRuns.{LineRuns}

-- a kept run, and all of them in order
abbrev pub run_in : LineRun → Run Perm
run_in r = record { count = r.count; value = r.perm }

abbrev pub runs_in : LineRuns → List (Run Perm)
runs_in rs = map run_in (drop rs.from rs.places)

-- the number of a run's permission, and its length
abbrev pub run_number : Run Perm → ℕ
run_number r = number r.value

abbrev pub run_length : Run Perm → ℕ
run_length r = r.count

-- how many words the run kept at a place has
abbrev pub no_run : LineRun
no_run = record { count = 0; perm = P.None }

abbrev pub count_at : LineRuns → ℕ → ℕ
count_at rs i = (slice_index_or rs.places i no_run).count

-- runs of a line: none is empty, and together they have at most 16 words
pub record IsInLine (rs : LineRuns) : Type 0 where
  pub whole : length rs.places ≡ 16
  pub inside : rs.from ≤ 16
  pub some : (i : ℕ) → rs.from ≤ i → i < 16 → 0 < count_at rs i
  pub few : sum_by run_length (runs_in rs) ≤ 16
