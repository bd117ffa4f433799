-- The caches of a hart, and what a check does to them. Nothing but counts is read of them: they decide no right.
-- The rules: docs/MACHINE.md, "Checks and counts".
use Rattle.std.specs.Prelude.{ℕ, ◌+◌, ◌-◌, ◌^◌, Bool, true, false, not, nat_lt, ◌==◌, ◌&&◌, List, [], ◌∷◌, take, replicate, filter, find}
use Rattle.std.specs.Prelude.{slice_set, slice_index_or, if◌then◌else◌, Option, Some, None}
use Rattle.std.specs.Prelude.{map as list_map}
use Rattle.std.specs.Option.{option_map_or}
use Rattle.mx_words.specs.declared.perm.Span.{Span}
use Rattle.mx_words.specs.Ranges.{covers, overlaps}

-- a kept span, after the domain for which the lookaside buffer keeps it
abbrev pub Entry : Type 0
Entry = ℕ × Span

-- a hart's caches: 32 places, each a span or nothing; a list of kept spans, newest first; how many checks a place answered, how
-- many the list, and how many the tables
pub record Cache : Type 0 where
  pub places : List (Option Span)
  pub kept : List Entry
  pub sidecar : ℕ
  pub lookaside : ℕ
  pub walks : ℕ

-- the number of places of a hart
abbrev pub place_count : ℕ
place_count = 32

-- empty caches with counts 0
abbrev pub no_cache : Cache
no_cache =
    record { places = replicate place_count None; kept = []; sidecar = 0; lookaside = 0; walks = 0 }

-- a count after one more; at 2^64 - 1 it stays
abbrev pub raised : ℕ → ℕ
raised n = if nat_lt n (2 ^ 64 - 1) then n + 1 else n

-- whether a span covers a word; whether it meets a range
abbrev pub covers_word : Span → ℕ → Bool
covers_word s word = covers s.first s.count word

abbrev pub meets : Span → ℕ → ℕ → Bool
meets s first count = overlaps s.first s.count first count

-- the span of a place
abbrev pub in_place : List (Option Span) → ℕ → Option Span
in_place places p = slice_index_or places p None

-- the span of a place where it covers the word
abbrev pub found_in_place : List (Option Span) → ℕ → ℕ → Option Span
found_in_place places p word =
    option_map_or (λ s. if covers_word s word then Some s else None) (in_place places p) None

-- whether a kept entry is of the domain and covers the word
abbrev pub is_for : ℕ → ℕ → Entry → Bool
is_for domain word e = (e.0 == domain) && covers_word e.1 word

-- the newest kept span of the domain that covers the word
abbrev pub found_kept : List Entry → ℕ → ℕ → Option Span
found_kept kept domain word =
    option_map_or (λ (e : Entry). Some e.1) (find (is_for domain word) kept) None

-- the list with a new entry in front, of which at most `most` stay
abbrev pub kept_with : ℕ → Entry → List Entry → List Entry
kept_with most e kept = take most (e ∷ kept)

-- the places, and the list, without the spans that meet a range
abbrev pub places_without : ℕ → ℕ → List (Option Span) → List (Option Span)
places_without first count places =
    list_map (λ o. option_map_or (λ s. if meets s first count then None else Some s) o None) places

abbrev pub kept_without : ℕ → ℕ → List Entry → List Entry
kept_without first count kept = filter (λ (e : Entry). not (meets e.1 first count)) kept

-- a place answers
abbrev pub with_place_hit : Cache → Cache
with_place_hit c = record c { sidecar = raised c.sidecar }

-- the list answers: its span goes into the place, and the list stays
abbrev pub with_kept_hit : ℕ → Span → Cache → Cache
with_kept_hit p s c =
    record c { places = slice_set c.places p (Some s); lookaside = raised c.lookaside }

-- the tables are walked: the span goes into the place and to the front of the list, unless it is barred
abbrev pub with_walk : ℕ → ℕ → ℕ → Span → Bool → Cache → Cache
with_walk most p domain s true c = record c { walks = raised c.walks }
with_walk most p domain s false c = record c {
  places = slice_set c.places p (Some s);
  kept = kept_with most ((domain, s)) c.kept;
  walks = raised c.walks;
}

-- a check that no place answers
abbrev pub checked_behind : ℕ → ℕ → ℕ → Span → Bool → Option Span → Cache → Cache
checked_behind most p domain walked barred (Some s) c = with_kept_hit p s c
checked_behind most p domain walked barred None c = with_walk most p domain walked barred c

-- a check of which a place answers, or doesn't
abbrev pub checked_at : ℕ → ℕ → ℕ → ℕ → Span → Bool → Option Span → Cache → Cache
checked_at most p domain word walked barred (Some s) c = with_place_hit c
checked_at most p domain word walked barred None c =
    checked_behind most p domain walked barred (found_kept c.kept domain word) c

-- a check of a word at place p in a domain: `most` is the list's size, `walked` the span that a walk of the tables answers,
-- and `barred` whether that span meets the range of a call in flight that the hart has heard
abbrev pub checked : ℕ → ℕ → ℕ → ℕ → Span → Bool → Cache → Cache
checked most p domain word walked barred c =
    checked_at most p domain word walked barred (found_in_place c.places p word) c

-- all places emptied, at a crossing, a return and a fault that gives up a frame
abbrev pub left_domain : Cache → Cache
left_domain c = record c { places = replicate place_count None }

-- the spans that meet a range dropped
abbrev pub without_range : ℕ → ℕ → Cache → Cache
without_range first count c =
    record c {
      places = places_without first count c.places;
      kept = kept_without first count c.kept;
    }
