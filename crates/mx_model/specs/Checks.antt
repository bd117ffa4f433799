-- Checks of words, hearing, and the caches. A turn looks at words at places; what its caches keep follows from these looks.
-- The rules: docs/MACHINE.md, "Announced calls" and "Checks and counts".
use Rattle.std.specs.Prelude.{ℕ, Bool, true, false, ◌==◌, List, [], ◌∷◌, fold, filter_map, slice_index, slice_set, if◌then◌else◌, Option}
use Rattle.std.specs.Prelude.{None}
use Rattle.std.specs.Prelude.{map as list_map}
use Rattle.std.specs.List.{list_all, list_any, enumerate_from}
use Rattle.std.specs.Option.{option_map_or}
use Rattle.mx_words.specs.Announced.{announced}
use Rattle.mx_words.specs.Caches.{checked, without_range, left_domain, meets}
use Rattle.mx_words.specs.Hearing.{heard_range, unheard_range, with_hearer, lets_pass}
use Rattle.mx_words.specs.Ranges.{word_of}
use Rattle.mx_model.specs.declared.values.Call.{Call}
use Rattle.mx_model.specs.State.{Core, Hart, Status, Running, Waiting, Halted, module_at, with_cache, cache_at}
use Rattle.mx_model.specs.Reads.{Reads}

-- a look at a word at a place, by a hart in a domain
pub record Look : Type 0 where
  pub place : ℕ
  pub domain : ℕ
  pub word : ℕ

-- the argument of a call
abbrev pub arg : Call → ℕ → ℕ
arg call i = slice_index call.args i

-- the range that an announced call may change, as its first word and their number
abbrev pub call_range : Core → Call → ℕ × ℕ
call_range c call =
    let heap = (module_at c call.domain).heap in
    announced call.number (arg call 0) (arg call 1) c.size (heap.first, heap.count)

-- the range of the call on which a hart waits, as far as the choice takes it by the harts that have heard it
abbrev pub flight_range : Core → (List Bool → ℕ × ℕ → Option (ℕ × ℕ)) → Status → Option (ℕ × ℕ)
flight_range c choice Running = None
flight_range c choice (Waiting call heard) = choice heard (call_range c call)
flight_range c choice (Halted code) = None

-- the ranges of the calls in flight of the harts other than h, as far as the choice takes them
abbrev pub ranges : Core → ℕ → (List Bool → ℕ × ℕ → Option (ℕ × ℕ)) → List (ℕ × ℕ)
ranges c h choice =
    filter_map (λ (p : ℕ × Hart). if p.0 == h then None else flight_range c choice p.1.status)
    (enumerate_from 0 c.harts)

-- the ranges that hart h has heard, and those that it hasn't
abbrev pub heard_ranges : Core → ℕ → List (ℕ × ℕ)
heard_ranges c h = ranges c h (heard_range h)

abbrev pub unheard_ranges : Core → ℕ → List (ℕ × ℕ)
unheard_ranges c h = ranges c h (unheard_range h)

-- a hart whose call h has heard
abbrev pub heard_by : ℕ → Status → Status
heard_by h Running = Running
heard_by h (Waiting call heard) = Waiting call (with_hearer h heard)
heard_by h (Halted code) = Halted code

-- hart h hears every call in flight of another hart, and drops its spans that meet a range heard for the first time
abbrev pub hears : ℕ → Core → Core
hears h c =
    let cache = fold (λ cache (r : ℕ × ℕ). without_range r.0 r.1 cache) (cache_at c h)
    (unheard_ranges c h) in
    record c {
      harts = list_map
          (λ (p : ℕ × Hart).
          if p.0 == h then p.1 else record p.1 { status = heard_by h p.1.status })
          (enumerate_from 0 c.harts);
      caches = slice_set c.caches h cache;
    }

-- whether a hart of that status is halted, or isn't there
abbrev pub is_halted : Status → Bool
is_halted (Halted code) = true
is_halted status = false

-- whether every other hart that isn't halted is among those that have heard hart h's call
abbrev pub is_ready : Core → ℕ → List Bool → Bool
is_ready c h heard =
    list_all (λ (p : ℕ × Hart). lets_pass h heard p.0 (is_halted p.1.status))
    (enumerate_from 0 c.harts)

-- hart h's caches after a look
abbrev pub looked : Reads → ℕ → Core → Look → Core
looked r h c l =
    let walked = r.walk l.domain l.word in
    let barred = list_any (λ (p : ℕ × ℕ). meets walked p.0 p.1) (heard_ranges c h) in
    with_cache h (checked c.buffer l.place l.domain l.word walked barred (cache_at c h)) c

-- and after several, in order
abbrev pub looked_all : Reads → ℕ → List Look → Core → Core
looked_all r h looks c = fold (looked r h) c looks

-- hart h's places emptied
abbrev pub empties_places : ℕ → Core → Core
empties_places h c = with_cache h (left_domain (cache_at c h)) c

-- hart h's own spans on its call's range dropped
abbrev pub drops : ℕ → ℕ × ℕ → Core → Core
drops h range c = with_cache h (without_range range.0 range.1 (cache_at c h)) c

-- a look at the word that holds an address; outside RAM there is none
abbrev pub looks_at : Core → ℕ → ℕ → ℕ → List Look
looks_at c place domain address =
    option_map_or (λ w. record { place = place; domain = domain; word = w } ∷ [])
    (word_of address c.size) []
