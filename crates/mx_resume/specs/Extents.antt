-- How far the runs of a list are read, and which numbers of the head are known.
use Rattle.std.specs.Prelude.{◌≡◌, ℕ, ◌+◌, ◌-◌, ◌^◌, ◌≤◌, Bool, nat_le, nat_lt, ◌==◌, ◌&&◌, List, length, if◌then◌else◌, Option, None}
use Rattle.std.specs.Prelude.{option_map}
use Rattle.std.specs.List.{last_or}
use Rattle.mx_words.specs.Limits.{most_modules, most_harts}
use Rattle.mx_words.specs.Ranges.{most_words}
use Rattle.mx_words.specs.Runs.{Run}
use Rattle.mx_table.specs.Tables.{IsLimit}
use Rattle.mx_snapshot.specs.Rules.{run_words}
use Rattle.mx_resume.specs.declared.head.Head.{Head}
use Rattle.mx_resume.specs.declared.maps.Extent.{Extent}

-- so many runs are read, and have so many words
pub record IsExtent {A : Type 0} (before : List (Run A)) (so_far : Extent) : Type 0 where
  pub read : length before ≡ so_far.read
  pub words : run_words before ≡ so_far.words

-- the value of the last run
abbrev pub last_value : {A : Type 0} → List (Run A) → Option A
last_value {A} before = option_map (λ (r : Run A). r.value) (last_or None before)

-- behind `read` of `runs` runs, of so many words, a run of `count` words isn't empty and doesn't pass RAM's end; the last one ends there
abbrev pub fills : ℕ → ℕ → ℕ → ℕ → ℕ → Bool
fills words runs read filled count =
    nat_lt 0 count
    && (if read + 1 == runs then filled + count == words else nat_le (filled + count) words)

-- what is known of the numbers of a head
pub record HasBounds (h : Head) : Type 0 where
  pub some_words : 1 ≤ h.words
  pub few_words : h.words ≤ most_words
  pub limit : IsLimit h.limit
  pub some_modules : 1 ≤ h.modules
  pub few_modules : h.modules ≤ most_modules
  pub some_harts : 1 ≤ h.harts
  pub few_harts : h.harts ≤ most_harts
  pub few_turns : h.turns ≤ 2 ^ 63 - 1
