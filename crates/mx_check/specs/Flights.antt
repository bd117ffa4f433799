-- Lists of calls in flight.
use Rattle.std.specs.Prelude.{◌≡◌, ◌≢◌, ℕ, ◌<◌, ◌==◌, Bool, true, List, find, length, Option}
use Rattle.mx_words.specs.Hearing.{is_in}
use Rattle.mx_words.specs.Limits.{most_harts}
use Rattle.mx_check.specs.declared.flight.Flight.{Flight}

-- whether a call is of hart h
abbrev pub is_of : ℕ → Flight → Bool
is_of h f = f.hart == h

-- the call of hart h in a list, if any
abbrev pub flight_of : List Flight → ℕ → Option Flight
flight_of flights h = find (is_of h) flights

-- a call's set of harts has a place for each of the four
abbrev pub IsSet : Flight → Type 0
IsSet f = length f.heard ≡ most_harts

-- whoever has heard a call of hart h is another one of so many harts
abbrev pub IsHeardByOthers : ℕ → ℕ → Flight → Type 0
IsHeardByOthers harts h f = (i : ℕ) → is_in f.heard i ≡ true → (i < harts) × (i ≢ h)

-- who has heard a call of hart h in flight: a set of the four harts, in which are only others of so many
pub record AreHearers (harts h : ℕ) (f : Flight) : Type 0 where
  pub places : IsSet f
  pub others : IsHeardByOthers harts h f
