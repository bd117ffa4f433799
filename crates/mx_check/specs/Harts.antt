-- What the checker keeps for each hart, and the steps by which one hart's part changes.
use Rattle.std.specs.Prelude.{ℕ, Bool, true, false, List, slice_set, slice_index_or, Option, Some, None}
use Rattle.std.specs.Option.{option_map, option_map_or}
use Rattle.mx_words.specs.Caches.{Cache, no_cache, left_domain, without_range}
use Rattle.mx_words.specs.Hearing.{is_in, nobody, with_hearer}
use Rattle.mx_check.specs.declared.flight.Flight.{Flight}

-- a hart's caches, whether it is halted, the domain that its checks since it last left a domain named, and its call in flight
pub record Kept : Type 0 where
  pub cache : Cache
  pub halted : Bool
  pub domain : Option ℕ
  pub flight : Option Flight

-- a hart that has done nothing yet
abbrev pub new_hart : Kept
new_hart = record { cache = no_cache; halted = false; domain = None; flight = None }

-- nothing is kept for a hart that isn't there, and it counts as halted
abbrev pub nothing_kept : Kept
nothing_kept = record { cache = no_cache; halted = true; domain = None; flight = None }

-- what is kept for hart h
abbrev pub kept_at : List Kept → ℕ → Kept
kept_at harts h = slice_index_or harts h nothing_kept

-- hart h after a step of its own; the others stay
abbrev pub at_hart : ℕ → (Kept → Kept) → List Kept → List Kept
at_hart h step harts = slice_set harts h (step (kept_at harts h))

-- the hart has a call in flight that changes at most the words first to first + count - 1
abbrev pub announced : ℕ → ℕ → ℕ → Kept → Kept
announced h first count k =
    record k { flight = Some (record { hart = h; first = first; count = count; heard = nobody }) }

-- hart h has heard the hart's call
abbrev pub marked : ℕ → Flight → Flight
marked h f = record f { heard = with_hearer h f.heard }

abbrev pub heard_by : ℕ → Kept → Kept
heard_by h k = record k { flight = option_map (marked h) k.flight }

-- the hart drops its spans that meet a range
abbrev pub drops_range : ℕ → ℕ → Kept → Kept
drops_range first count k = record k { cache = without_range first count k.cache }

-- the hart's call ends, and it drops its own spans that meet the call's range
abbrev pub without_flight_range : Option Flight → Cache → Cache
without_flight_range None c = c
without_flight_range (Some f) c = without_range f.first f.count c

abbrev pub finished : Kept → Kept
finished k = record k { cache = without_flight_range k.flight k.cache; flight = None }

-- the hart's places are emptied, and no domain is kept for it
abbrev pub leaves_domain : Kept → Kept
leaves_domain k = record k { cache = left_domain k.cache; domain = None }

-- the hart counts as halted from here on
abbrev pub halts : Kept → Kept
halts k = record k { halted = true }

-- whether hart h has heard the call, where one is in flight
abbrev pub has_heard : Option Flight → ℕ → Bool
has_heard flight h = option_map_or (λ f. is_in f.heard h) flight false
