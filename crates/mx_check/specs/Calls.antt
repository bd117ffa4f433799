-- What the calls on flights do to what the checker keeps.
use Rattle.std.specs.Prelude.{ℕ, zero, suc, ◌==◌, Bool, false, List, length, replicate, if◌then◌else◌, Option, Some, None}
use Rattle.mx_words.specs.Counting.{all_below, list_below}
use Rattle.mx_words.specs.Hearing.{unheard_range, lets_pass}
use Rattle.mx_check.specs.declared.flight.Flight.{Flight}
use Rattle.mx_check.specs.Flights.{flight_of}
use Rattle.mx_check.specs.Harts.{Kept, new_hart, kept_at, at_hart, drops_range, heard_by}

-- what a checker means: its tables, and what it keeps for each hart
pub record Checks (T : Type 0) : Type 0 where
  pub tables : T
  pub harts : List Kept

-- the range of a call in flight, where hart h hasn't heard it yet
abbrev pub unheard_of : ℕ → Option Flight → Option (ℕ × ℕ)
unheard_of h None = None
unheard_of h (Some f) = unheard_range h f.heard (f.first, f.count)

-- hart h hears the call of hart i: it drops its spans that meet the range, and has heard the call
abbrev pub hears_range : ℕ → ℕ → Option (ℕ × ℕ) → List Kept → List Kept
hears_range h i None harts = harts
hears_range h i (Some r) harts = at_hart i (heard_by h) (at_hart h (drops_range r.0 r.1) harts)

abbrev pub unheard : ℕ → ℕ → List Kept → Option (ℕ × ℕ)
unheard h i harts = if i == h then None else unheard_of h (kept_at harts i).flight

abbrev pub hears_one : ℕ → ℕ → List Kept → List Kept
hears_one h i harts = hears_range h i (unheard h i harts) harts

-- hart h hears the calls of the first n harts, one after another
abbrev pub hears_first : ℕ → ℕ → List Kept → List Kept
hears_first h zero harts = harts
hears_first h (suc n) harts = hears_one h n (hears_first h n harts)

-- hart h hears each call in flight of another hart
abbrev pub hears : ℕ → List Kept → List Kept
hears h harts = hears_first h (length harts) harts

-- whether hart i doesn't hold up a call of hart h
abbrev pub hart_lets_pass : ℕ → Flight → List Kept → ℕ → Bool
hart_lets_pass h f harts i = lets_pass h f.heard i (kept_at harts i).halted

-- whether the call of hart h may take effect: each other hart that isn't halted has heard it
abbrev pub ready_with : ℕ → Option Flight → List Kept → Bool
ready_with h None harts = false
ready_with h (Some f) harts = all_below (length harts) (hart_lets_pass h f harts)

abbrev pub is_ready : ℕ → List Kept → Bool
is_ready h harts = ready_with h (kept_at harts h).flight harts

-- harts at the start
abbrev pub new_harts : ℕ → List Kept
new_harts n = replicate n new_hart

-- a hart that has done nothing but announce the call on which it waits
abbrev pub waiting_hart : List Flight → ℕ → Kept
waiting_hart flights h = record new_hart { flight = flight_of flights h }

-- n harts, of which those named have these calls in flight
abbrev pub waiting_harts : List Flight → ℕ → List Kept
waiting_harts flights n = list_below n (waiting_hart flights)
