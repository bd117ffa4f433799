-- Coherence: what the spans that a checker keeps say of the maps as they are now.
use Rattle.std.specs.Prelude.{◌≡◌, ◌≢◌, ℕ, ◌≤◌, Bool, true, false, List, IfSome, Option, Some, None}
use Rattle.mx_words.specs.declared.perm.Perm.{Perm}
use Rattle.mx_words.specs.declared.perm.Span.{Span}
use Rattle.mx_words.specs.Caches.{Cache, covers_word}
use Rattle.mx_words.specs.KeptSpans.{EachSpan, IsClear}
use Rattle.mx_words.specs.Limits.{most_harts}
use Rattle.mx_words.specs.Ranges.{covers}
use Rattle.mx_words.specs.Rights.{perm_at}
use Rattle.mx_table.specs.Tables.{map_of}
use Rattle.mx_check.specs.declared.flight.Flight.{Flight}
use Rattle.mx_check.specs.Flights.{AreHearers}
use Rattle.mx_words.specs.Hearing.{is_in}
use Rattle.mx_check.specs.Harts.{Kept, kept_at}
use Rattle.std.specs.Prelude.{length}

-- whether a word lies in the range of a hart's own call in flight
abbrev pub is_spared : Option Flight → ℕ → Bool
is_spared None word = false
is_spared (Some f) word = covers f.first f.count word

-- a span has its permission on each of its words in a map, but for the words of the hart's own call
pub record AgreesWithMap (m : List Perm) (own : Option Flight) (s : Span) : Type 0 where
  pub at : (word : ℕ) → covers_word s word ≡ true → is_spared own word ≡ false →
      perm_at m word ≡ s.perm

-- the same in the map of the domain that is kept for the hart; where none is, its places hold no span
abbrev pub AgreesIn : List (List Perm) → Option Flight → Option ℕ → Span → Type 0
AgreesIn maps own None s = ⊥
AgreesIn maps own (Some d) s = AgreesWithMap (map_of maps d) own s

-- first fact, the spans of one hart are current: an entry's span agrees with its own domain's map, a place's with that of the kept domain
abbrev pub AreCurrent : List (List Perm) → Kept → Type 0
AreCurrent maps k =
    EachSpan (λ d s. AgreesWithMap (map_of maps d) k.flight s) (AgreesIn maps k.flight k.domain) k.cache

-- second fact, of hart h and one call: where h has heard it, no span of h meets its range
abbrev pub HasDropped : ℕ → Cache → Flight → Type 0
HasDropped h c f = is_in f.heard h ≡ true → IsClear (f.first, f.count) c

-- what a checker keeps at every moment between its calls
pub record Keeps (maps : List (List Perm)) (harts : List Kept) : Type 0 where
  pub agree : (h : ℕ) → (kept_at harts h).halted ≡ false → AreCurrent maps (kept_at harts h)
  pub dropped : (h i : ℕ) → (kept_at harts h).halted ≡ false → i ≢ h →
      IfSome (kept_at harts i).flight (HasDropped h (kept_at harts h).cache)
  pub hearers : (h : ℕ) → IfSome (kept_at harts h).flight (AreHearers (length harts) h)
  pub few : length harts ≤ most_harts
