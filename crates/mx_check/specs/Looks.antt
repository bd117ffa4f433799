-- What a check of an address does to what the checker keeps.
use Rattle.std.specs.Prelude.{ℕ, zero, suc, ◌==◌, ◌&&◌, Bool, false, not, List, Option, Some, None}
use Rattle.mx_words.specs.declared.perm.Perm.{Perm}
use Rattle.mx_words.specs.declared.perm.Perm.TheVariants as P
use Rattle.mx_words.specs.declared.perm.Span.{Span}
use Rattle.mx_words.specs.declared.tables.Kind.{Kind}
use Rattle.mx_words.specs.Caches.{Cache, raised, found_in_place, found_kept, with_place_hit, with_kept_hit, with_walk, checked}
use Rattle.mx_words.specs.Counting.{all_below}
use Rattle.mx_words.specs.Ranges.{word_of}
use Rattle.mx_words.specs.Reach.{span}
use Rattle.mx_check.specs.declared.flight.Flight.{Flight}
use Rattle.mx_words.specs.Hearing.{forbids_keeping}
use Rattle.mx_check.specs.Harts.{Kept, kept_at, at_hart}
use Rattle.std.specs.Prelude.{length}
use Rattle.std.specs.Option.{option_or}

-- whether a span meets the range of a call in flight that hart h has heard
abbrev pub flight_forbids : ℕ → Span → Option Flight → Bool
flight_forbids h s None = false
flight_forbids h s (Some f) = forbids_keeping h f.heard (f.first, f.count) s

-- whether the call of hart i keeps hart h from keeping a span
abbrev pub hart_forbids : ℕ → Span → List Kept → ℕ → Bool
hart_forbids h s harts i = not (i == h) && flight_forbids h s (kept_at harts i).flight

-- whether a span meets the range of a call in flight of another hart that hart h has heard
abbrev pub is_forbidden : ℕ → Span → List Kept → Bool
is_forbidden h s harts = not (all_below (length harts) (λ i. not (hart_forbids h s harts i)))

-- the span with which a place or the list answers, the place first
abbrev pub found : ℕ → ℕ → ℕ → Cache → Option Span
found place domain word c =
    option_or (found_in_place c.places place word) (found_kept c.kept domain word)

-- the caches after an answer of a place or of the list
abbrev pub answered_by : ℕ → Option Span → Option Span → Cache → Cache
answered_by place (Some s) o c = with_place_hit c
answered_by place None (Some s) c = with_kept_hit place s c
answered_by place None None c = c

abbrev pub with_any_hit : ℕ → ℕ → ℕ → Cache → Cache
with_any_hit place domain word c =
    answered_by place (found_in_place c.places place word) (found_kept c.kept domain word) c

-- a hart after a look for a word in its list alone
abbrev pub after_list : ℕ → ℕ → ℕ → Kept → Kept
after_list place domain word k =
    record k { cache = answered_by place None (found_kept k.cache.kept domain word) k.cache }

-- the checker keeps the domain of a check
abbrev pub with_domain : ℕ → Kept → Kept
with_domain domain k = record k { domain = Some domain }

-- a hart after a look for a word in its caches, and after a walk that found a span
abbrev pub after_caches : ℕ → ℕ → ℕ → Kept → Kept
after_caches place domain word k =
    record k { cache = with_any_hit place domain word k.cache; domain = Some domain }

abbrev pub after_walk : ℕ → ℕ → ℕ → Span → Bool → Kept → Kept
after_walk most place domain s barred k =
    record k { cache = with_walk most place domain s barred k.cache }

-- a hart after a fetch that place 0 answers
abbrev pub hits : ℕ → Kept → Kept
hits domain k = record k { cache = with_place_hit k.cache; domain = Some domain }

-- a hart after so many of them
abbrev pub hits_all : ℕ → ℕ → Kept → Kept
hits_all zero domain k = k
hits_all (suc n) domain k = hits domain (hits_all n domain k)

-- a hart after a check of a word, on which a walk of the tables finds the span s
abbrev pub looks : ℕ → ℕ → ℕ → ℕ → Span → Bool → Kept → Kept
looks most place domain word s barred k =
    record k { cache = checked most place domain word s barred k.cache; domain = Some domain }

-- the harts after hart h checks a word, or an address outside RAM
abbrev pub looked_at : ℕ → Kind → List Perm → ℕ → ℕ → ℕ → Option ℕ → List Kept → List Kept
looked_at most kind m h place domain None harts = at_hart h (with_domain domain) harts
looked_at most kind m h place domain (Some word) harts =
    at_hart h
    (looks most place domain word (span kind m word) (is_forbidden h (span kind m word) harts))
    harts

-- the harts after hart h checks an address in a domain with the map m: the buffers hold `most` entries
abbrev pub looked_at_address : ℕ → Kind → List Perm → ℕ → ℕ → ℕ → ℕ → List Kept → List Kept
looked_at_address most kind m h place domain address harts =
    looked_at most kind m h place domain (word_of address (length m)) harts

-- the count of lookups after a check: it rises where neither the place nor the list answers
abbrev pub lookups_with : Option Span → ℕ → ℕ
lookups_with (Some s) n = n
lookups_with None n = raised n

abbrev pub lookups_at : ℕ → ℕ → Option ℕ → Cache → ℕ → ℕ
lookups_at place domain None c n = n
lookups_at place domain (Some word) c n = lookups_with (found place domain word c) n

abbrev pub lookups_after : List Perm → ℕ → ℕ → ℕ → Cache → ℕ → ℕ
lookups_after m place domain address c n = lookups_at place domain (word_of address (length m)) c n

-- the permission by which the caches and the tables decide a word
abbrev pub decided_by : Option Span → Span → Perm
decided_by (Some s) walked = s.perm
decided_by None walked = walked.perm

abbrev pub decided_at : Kind → List Perm → ℕ → ℕ → Option ℕ → Cache → Perm
decided_at kind m place domain None c = P.None
decided_at kind m place domain (Some word) c =
    decided_by (found place domain word c) (span kind m word)

-- the permission by which a check decides
abbrev pub decided : Kind → List Perm → ℕ → ℕ → ℕ → Cache → Perm
decided kind m place domain address c =
    decided_at kind m place domain (word_of address (length m)) c
