-- The conditions of the checker's calls.
use Rattle.std.specs.Prelude.{◌≡◌, ◌≢◌, ℕ, ◌+◌, ◌<◌, ◌≤◌, ◌⊎◌, true, false, List, length, IfSome, Some, None}
use Rattle.std.specs.Option.{option_map}
use Rattle.mx_words.specs.declared.perm.Perm.TheVariants as P
use Rattle.mx_words.specs.Caches.{Cache, found_in_place}
use Rattle.mx_words.specs.Ranges.{word_of}
use Rattle.mx_table.specs.declared.change.Change.{Change}
use Rattle.mx_check.specs.declared.flight.Flight.{Flight}
use Rattle.mx_check.specs.Flights.{IsHeardByOthers}
use Rattle.mx_words.specs.Hearing.{is_in}
use Rattle.mx_check.specs.Harts.{Kept, kept_at}
use Rattle.mx_check.specs.Calls.{is_ready}

-- hart h has heard the call in flight of each other hart
abbrev pub HasHeardAll : ℕ → List Kept → Type 0
HasHeardAll h harts =
    (i : ℕ) → i ≢ h → IfSome (kept_at harts i).flight (λ f. is_in f.heard h ≡ true)

-- hart h may check an address in a domain: it is there, not halted, has no call in flight, has heard the others', and no other
-- domain is kept for it
pub record MayLook (h domain : ℕ) (harts : List Kept) : Type 0 where
  pub hart : h < length harts
  pub running : (kept_at harts h).halted ≡ false
  pub free : (kept_at harts h).flight ≡ None
  pub heard : HasHeardAll h harts
  pub same_domain : IfSome (kept_at harts h).domain (λ d. d ≡ domain)

-- the fetch of an address is at hand in a RAM of `size` words: the span in place 0 covers its word, which may be executed
pub record IsAtHand (size : ℕ) (c : Cache) (address : ℕ) : Type 0 where
  pub word : ℕ
  pub here : word_of address size ≡ Some word
  pub right : option_map (λ s. s.perm) (found_in_place c.places 0 word) ≡ Some P.ExecuteRead

-- a hart is as before but for its caches
pub record SameButCaches (now before : Kept) : Type 0 where
  pub halted : now.halted ≡ before.halted
  pub domain : now.domain ≡ before.domain
  pub flight : now.flight ≡ before.flight

-- a range is empty or in a RAM of `words` words
abbrev pub IsWithin : ℕ → ℕ → ℕ → Type 0
IsWithin first count words = (count ≡ 0) ⊎ (first + count ≤ words)

-- hart h may announce a call
pub record MayAnnounce (h : ℕ) (harts : List Kept) : Type 0 where
  pub hart : h < length harts
  pub running : (kept_at harts h).halted ≡ false
  pub free : (kept_at harts h).flight ≡ None

-- a change keeps to the range that was announced
abbrev pub IsInside : Change → Flight → Type 0
IsInside c f = (f.first ≤ c.first) × (c.first + c.count ≤ f.first + f.count)

-- hart h may make a change: its call is ready, and announced the change's range
pub record MayChange (h : ℕ) (c : Change) (harts : List Kept) : Type 0 where
  pub hart : h < length harts
  pub ready : is_ready h harts ≡ true
  pub inside : IfSome (kept_at harts h).flight (IsInside c)

-- a flight with which a checker of so many harts resumes
pub record IsResumable (harts words : ℕ) (f : Flight) : Type 0 where
  pub hart : f.hart < harts
  pub range : IsWithin f.first f.count words
  pub heard : IsHeardByOthers harts f.hart f
