-- The runs of the map of a row's first spans, counted span by span.
use Rattle.std.specs.Prelude.{ℕ, ◌≡◌, ◌+◌, ◌-◌, ◌<◌, ◌≤◌, Bool, not, ◌==◌, ◌&&◌, ◌||◌, nat_lt, if◌then◌else◌, List}
use Rattle.mx_words.specs.declared.perm.Perm.{Perm}
use Rattle.mx_words.specs.declared.perm.Perm.TheVariants as P
use Rattle.mx_words.specs.declared.perm.Span.{Span}
use Rattle.mx_words.specs.Rights.{same, perm_at}
use Rattle.mx_words.specs.Counting.{count_below}
use Rattle.mx_words.specs.Runs.{runs}
use Rattle.mx_words.specs.Starts.{is_start}
use Rattle.mx_segments.specs.declared.tally.Tally.{Tally}

-- a tally of a map in which no word has a permission from `end` on: how many runs begin before that word, how many there are, and
-- the permission of the word before it
pub record IsTally (words : ℕ) (m : List Perm) (tally : Tally) : Type 0 where
  pub within : tally.end ≤ words
  pub tail : (j : ℕ) → tally.end ≤ j → perm_at m j ≡ P.None
  pub before : tally.before ≡ count_below tally.end (is_start m)
  pub all : tally.runs ≡ runs m
  pub few : tally.before ≤ tally.runs
  pub most : tally.runs ≤ words
  pub last : 0 < tally.end → tally.last ≡ perm_at m (tally.end - 1)

-- how many runs begin before a word at the tally's end or after it, and the permission of the word before
abbrev pub counted_before : Tally → ℕ → ℕ
counted_before tally first = if nat_lt tally.end first then tally.runs else tally.before

abbrev pub perm_before : Tally → ℕ → Perm
perm_before tally first = if nat_lt tally.end first then P.None else tally.last

-- whether a run begins at a span, and whether one begins right after it, where no word has a permission
abbrev pub begins_at : Tally → Span → Bool
begins_at tally span = (span.first == 0) || not (same (perm_before tally span.first) span.perm)

abbrev pub begins_behind : Span → ℕ → Bool
begins_behind span words = nat_lt (span.first + span.count) words && not (same span.perm P.None)
