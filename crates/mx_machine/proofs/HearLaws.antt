-- Calls in flight: what a machine's harts say of them is what its checker says.
use Rattle.std.proofs.Common.{◌≡◌, ◌≢◌, ℕ, suc, ◌+◌, ◌<◌, ◌⊎◌, inl, inr, ◌==◌, ◌&&◌, Bool, true, false, not, cond, List, [], ◌∷◌, length}
use Rattle.std.proofs.Common.{get_or, set, Option, Some, None, refl, sym, ap, subst, ◌∙◌, arith, eq-eqb, zero-add}
use Rattle.std.proofs.Common.{map as list_map}
use Rattle.std.specs.Prelude.{fold, IfSome}
use Rattle.std.specs.List.{list_any, enumerate_from}
use Rattle.std.specs.Option.{option_map}
use Rattle.std.proofs.lemmas.Bool.{cases_eq, ne_eqb}
use Rattle.mx_words.specs.declared.perm.Span.{Span}
use Rattle.mx_words.specs.Caches.{Cache, meets, without_range}
use Rattle.mx_words.specs.Counting.{all_below}
use Rattle.mx_words.specs.Hearing.{heard_range, is_in, lets_pass, nobody, unheard_range}
use Rattle.mx_check.specs.declared.flight.Flight.{Flight}
use Rattle.mx_check.specs.Calls.{hears, unheard, unheard_of}
use Rattle.mx_check.specs.Calls.{is_ready as ready_kept}
use Rattle.mx_check.specs.Conditions.{HasHeardAll}
use Rattle.mx_check.specs.Harts.{Kept, kept_at, at_hart, announced, marked}
use Rattle.mx_check.specs.Looks.{flight_forbids, hart_forbids, is_forbidden}
use Rattle.mx_check.proofs.HearLaws.{hears_own, length-hears_first}
use Rattle.mx_check.proofs.LookLaws.{all_below_agree, kept_at-other, kept_at-same, length-at_hart}
use Rattle.mx_model.specs.declared.values.Call.{Call}
use Rattle.mx_model.specs.Checks.{call_range, flight_range, heard_by, heard_ranges, is_ready, unheard_ranges}
use Rattle.mx_model.specs.Checks.{hears as heard_in, is_halted as halted_by}
use Rattle.mx_model.specs.State.{Core, Module, module_at}
use Rattle.mx_model.specs.State.{Hart as Seen}
use Rattle.mx_model.specs.State.{no_hart as nobody_seen}
use Rattle.mx_supervisor.specs.Looks.{BarsAlike}
use Rattle.mx_supervisor.specs.Parts.{modules_from, with_heap}
use Rattle.mx_supervisor.specs.Served.{range_of}
use Rattle.mx_supervisor.proofs.Ending.{range-is}
use Rattle.mx_supervisor.proofs.Answering.{with-harts}
use Rattle.mx_heap.specs.HeapState.{HeapState}
use Rattle.mx_machine.specs.declared.hart.Hart.{Hart}
use Rattle.mx_machine.specs.declared.hart.Progress.{Progress}
use Rattle.mx_machine.specs.declared.hart.Progress.TheVariants as G
use Rattle.mx_machine.specs.Actions.{heard}
use Rattle.mx_machine.specs.Harts.{hart_among, hearers, is_halted, no_held_hart, own_call, seen, seen_from, status_by}
use Rattle.mx_machine.specs.Held.{Held, rest_of}
use Rattle.mx_machine.specs.Made.{core_in}
use Rattle.mx_machine.specs.Ties.{Fits, FliesWhileWaiting, IsTied}
use Rattle.mx_machine.proofs.EachHart.{all-numbered, none-numbered, some_passes, without-numbered}
use Rattle.mx_machine.proofs.HartsAt.{hart-seen, length-seen}
use Rattle.mx_machine.proofs.Hearing.{cache-kept, caches_of, caches-first, heard-at, quiet-first, without_first}
use mathlib.Core.Bool.{not-not}

-- the other harts are tied
abbrev pub OthersTied : Held → ℕ → Type 0
OthersTied m h = (i : ℕ) → i ≢ h → IsTied (range_of m.parts) i (hart_among m.harts i) (kept_at m.parts.harts i)

-- where no call is in flight, hearing changes nothing, and all are heard
pub heard-quiet : (kept : List Kept) (h : ℕ) → ((i : ℕ) → (kept_at kept i).flight ≡ None) → hears h kept ≡ kept
heard-quiet kept h q = quiet-first kept h (length kept) q

pub all-quiet : (kept : List Kept) (h : ℕ) → ((i : ℕ) → (kept_at kept i).flight ≡ None) → HasHeardAll h kept
all-quiet kept h q i other = subst (λ (o : Option Flight). IfSome o (λ f. is_in f.heard h ≡ true)) (sym (q i)) tt

-- the range that a choice takes of a call in flight
abbrev taken : (List Bool → ℕ × ℕ → Option (ℕ × ℕ)) → Option Flight → Option (ℕ × ℕ)
taken choice None = None
taken choice (Some f) = choice f.heard (f.first, f.count)

-- a choice takes the same range of a hart that waits as of its call in flight
status-taken : (choice : List Bool → ℕ × ℕ → Option (ℕ × ℕ)) (c : Core) (call : Call) (range : ℕ × ℕ) (flight : Option Flight)
    (p : Progress) →
    call_range c call ≡ range → FliesWhileWaiting range flight p → flight_range c choice (status_by call flight p) ≡ taken choice flight
status-taken choice c call range flight G.Running e t = ap (taken choice) (sym t)
status-taken choice c call range None G.Waiting e t = absurd t
status-taken choice c call range (Some f) G.Waiting e t =
    ap (choice f.heard) e ∙ ap {B = Option (ℕ × ℕ)} (λ n. choice f.heard (n, range.1)) (sym t.first)
    ∙ ap {B = Option (ℕ × ℕ)} (λ n. choice f.heard (f.first, n)) (sym t.count)
status-taken choice c call range flight (G.Halted code) e t = ap (taken choice) (sym t)

-- and a hart that hears it marks the status as the call in flight
status-heard : (h : ℕ) (call : Call) (range : ℕ × ℕ) (flight : Option Flight) (p : Progress) → FliesWhileWaiting range flight p →
    heard_by h (status_by call flight p) ≡ status_by call (option_map (marked h) flight) p
status-heard h call range flight G.Running t = refl
status-heard h call range None G.Waiting t = absurd t
status-heard h call range (Some f) G.Waiting t = refl
status-heard h call range flight (G.Halted code) t = refl

flies-heard : (h : ℕ) (range : ℕ × ℕ) (flight : Option Flight) (p : Progress) → FliesWhileWaiting range flight p
    → FliesWhileWaiting range (option_map (marked h) flight) p
flies-heard h range flight G.Running t = ap (option_map (marked h)) t
flies-heard h range None G.Waiting t = t
flies-heard h range (Some f) G.Waiting t = record { first = t.first; count = t.count }
flies-heard h range flight (G.Halted code) t = ap (option_map (marked h)) t

-- a hart of the state is halted where the machine's is
pub halted-seen : (call : Call) (flight : Option Flight) (p : Progress) → halted_by (status_by call flight p) ≡ is_halted p
halted-seen call flight G.Running = refl
halted-seen call flight G.Waiting = refl
halted-seen call flight (G.Halted code) = refl

-- an equation of each hart of the state is one of each hart of the machine
module _ {Y : Type 0} (f : ℕ → Seen → Y) (g : ℕ → Y) (xs : List Hart) (kept : List Kept) (each : (j : ℕ)
    → f j (seen j (hart_among xs j) (kept_at kept j)) ≡ g j) where
  numbered : (j : ℕ) → f (0 + j) (get_or (seen_from 0 xs kept) j nobody_seen) ≡ g (0 + j)
  numbered j = search (arith, hart-seen)

-- what a choice takes of another hart's call in flight
module _ (m : Held) (h : ℕ) (choice : List Bool → ℕ × ℕ → Option (ℕ × ℕ)) where
  taken-other : (j : ℕ) → IsTied (range_of m.parts) j (hart_among m.harts j) (kept_at m.parts.harts j) →
      flight_range (core_in m) choice (seen j (hart_among m.harts j) (kept_at m.parts.harts j)).status
      ≡ taken choice (kept_at m.parts.harts j).flight
  taken-other j t = search (arith, status-taken, m.parts, range-is)

-- what hart h hasn't heard
unheard-taken : (h : ℕ) (o : Option Flight) → taken (unheard_range h) o ≡ unheard_of h o
unheard-taken h None = refl
unheard-taken h (Some f) = refl

unheard-alike : (m : Held) (h : ℕ) → OthersTied m h → (j : ℕ) →
    cond (j == h) None (flight_range (core_in m) (unheard_range h) (seen j (hart_among m.harts j) (kept_at m.parts.harts j)).status)
    ≡ unheard h j m.parts.harts
unheard-alike m h others j = search (arith, cases_eq, m.harts, m.parts.harts, eq-eqb, taken-other, unheard-taken)

-- what bars a span
bars-taken : (h : ℕ) (s : Span) (o : Option Flight) → some_passes (λ (r : ℕ × ℕ). meets s r.0 r.1) (taken (heard_range h) o)
    ≡ flight_forbids h s o
bars-taken h s None = refl
bars-taken h s (Some f) = by (is_in f.heard h)
  where
    by : (b : Bool) → some_passes (λ (r : ℕ × ℕ). meets s r.0 r.1) (cond b (Some (f.first, f.count)) None) ≡ (b && meets s f.first f.count)
    by true = refl
    by false = refl

hart-bars : (m : Held) (h : ℕ) (s : Span) → OthersTied m h → (j : ℕ) →
    some_passes (λ (r : ℕ × ℕ). meets s r.0 r.1) (cond (j == h) None
    (flight_range (core_in m) (heard_range h) (seen j (hart_among m.harts j) (kept_at m.parts.harts j)).status))
    ≡ hart_forbids h s m.parts.harts j
hart-bars m h s others j =
    search (arith, cases_eq, some_passes, m.harts, m.parts.harts, eq-eqb, ne_eqb, taken-other, bars-taken)

-- each hart of the state, once hart h has heard its call
hart-hears : (m : Held) (h : ℕ) → Fits m → h < length m.harts → (j : ℕ) →
    cond (j == h) (seen j (hart_among m.harts j) (kept_at m.parts.harts j))
    (record (seen j (hart_among m.harts j) (kept_at m.parts.harts j)) {
      status =
          heard_by h (seen j (hart_among m.harts j) (kept_at m.parts.harts j)).status;
    })
    ≡ seen j (hart_among m.harts j) (kept_at (hears h m.parts.harts) j)
hart-hears m h f there j =
    search (arith, cases_eq, m.harts, m.parts.harts, eq-eqb, hears_own, f.ties, ne_eqb, status-heard, m.parts, heard-at)

-- the harts of the state after an edit of each by its number
module _ (edit : ℕ × Seen → Seen) (new : List Kept) where
  edited : (i : ℕ) (xs : List Hart) (kept : List Kept) →
      ((j : ℕ) → edit (i + j, seen (i + j) (get_or xs j no_held_hart) (kept_at kept (i + j)))
      ≡ seen (i + j) (get_or xs j no_held_hart) (kept_at new (i + j))) →
      list_map edit (enumerate_from i (seen_from i xs kept)) ≡ seen_from i xs new
  edited i [] kept e = refl
  edited i (x ∷ xs) kept e =
      let n : i ≡ i + 0 = omega arith in
      let first : edit (i, seen i x (kept_at kept i)) ≡ seen i x (kept_at new i) =
      ap (λ k. edit (k, seen k x (kept_at kept k))) n ∙ e 0 ∙ ap (λ k. seen k x (kept_at new k)) (sym n) in
      ap (λ (y : Seen). y ∷ list_map edit (enumerate_from (i + 1) (seen_from (i + 1) xs kept))) first
      ∙ ap (λ (ys : List Seen). seen i x (kept_at new i) ∷ ys) (edited (i + 1) xs kept (λ j.
      let q : (i + 1) + j ≡ i + suc j = omega arith in
      ap (λ k. edit (k, seen k (get_or xs j no_held_hart) (kept_at kept k))) q ∙ e (suc j)
      ∙ ap (λ k. seen k (get_or xs j no_held_hart) (kept_at new k)) (sym q)))

-- the modules don't depend on the harts
modules-alike : (a b : Core) (d : ℕ) (heaps : List HeapState) → ((n : ℕ) → module_at a n ≡ module_at b n)
    → modules_from a d heaps ≡ modules_from b d heaps
modules-alike a b d [] same = refl
modules-alike a b d (x ∷ xs) same =
    ap (λ (y : Module). with_heap y x ∷ modules_from a (d + 1) xs) (same d)
    ∙ ap (λ (ms : List Module). with_heap (module_at b d) x ∷ ms) (modules-alike a b (d + 1) xs same)

-- there are as many harts in the state as in the checker
as-many : (m : Held) → length m.harts ≡ length m.parts.harts → 0 + length (seen_from 0 m.harts m.parts.harts) ≡ length m.parts.harts
as-many m n = zero-add (length (seen_from 0 m.harts m.parts.harts)) ∙ length-seen 0 m.harts m.parts.harts ∙ n

module _ (m : Held) (h : ℕ) (f : Fits m) (there : h < length m.harts) where
  -- the harts and the caches after hart h has heard
  harts-heard : (heard_in h (core_in m)).harts ≡ seen_from 0 m.harts (hears h m.parts.harts)
  harts-heard =
      edited (λ (p : ℕ × Seen). cond (p.0 == h) p.1 (record p.1 { status = heard_by h p.1.status })) (hears h m.parts.harts) 0 m.harts
      m.parts.harts
      (λ j. ap (λ k. cond (k == h) (seen k (hart_among m.harts j) (kept_at m.parts.harts k))
      (record (seen k (hart_among m.harts j) (kept_at m.parts.harts k)) {
        status =
            heard_by h (seen k (hart_among m.harts j) (kept_at m.parts.harts k)).status;
      }))
      (zero-add j)
      ∙ hart-hears m h f there j
      ∙ ap (λ k. seen k (hart_among m.harts j) (kept_at (hears h m.parts.harts) k)) (sym (zero-add j)))

  ranges-heard : (c : Cache) →
      fold (λ cache (r : ℕ × ℕ). without_range r.0 r.1 cache) c (unheard_ranges (core_in m) h)
      ≡ without_first (λ i. unheard h i m.parts.harts) (length m.parts.harts) c
  ranges-heard c =
      without-numbered (λ (p : ℕ × Seen). cond (p.0 == h) None (flight_range (core_in m) (unheard_range h) p.1.status))
      (λ i. unheard h i m.parts.harts) nobody_seen c 0 (seen_from 0 m.harts m.parts.harts)
      (numbered (λ k (x : Seen). cond (k == h) None (flight_range (core_in m) (unheard_range h) x.status)) (λ i. unheard h i m.parts.harts)
      m.harts m.parts.harts (unheard-alike m h (λ i ne. f.ties i)))
      ∙ ap (λ n. without_first (λ i. unheard h i m.parts.harts) n c) (as-many m f.count)

  caches-heard : caches_of (hears h m.parts.harts) ≡ (heard_in h (core_in m)).caches
  caches-heard =
      let kept = m.parts.harts in
      caches-first kept h (omega (arith, there, f.count)) (length kept)
      ∙ ap (λ (c : Cache). set (caches_of kept) h c) (sym (ranges-heard (kept_at kept h).cache))
      ∙ ap (λ (c : Cache). set (caches_of kept) h (fold (λ cache (r : ℕ × ℕ). without_range r.0 r.1 cache) c
      (unheard_ranges (core_in m) h)))
      (sym (cache-kept kept h))

-- hearing is the state's, and leaves all fitting
pub core-heard : (m : Held) (h : ℕ) → Fits m → h < length m.harts → core_in (heard h m) ≡ heard_in h (core_in m)
core-heard m h f there = search (arith, m.harts, caches_of, modules-alike, m.parts.heaps, harts-heard, caches-heard)

-- a hart stays tied where what is kept of it agrees with what was
tied-still : (range : Call → ℕ × ℕ) (i : ℕ) (x : Hart) (now before : Kept) → now.halted ≡ before.halted → now.domain ≡ before.domain →
    FliesWhileWaiting (range (own_call i x)) now.flight x.progress → IsTied range i x before → IsTied range i x now
tied-still range i x now before halted domain flight t = search arith

tied-heard : (m : Held) (h : ℕ) → Fits m → h < length m.harts → (i : ℕ)
    → IsTied (range_of m.parts) i (hart_among m.harts i) (kept_at (hears h m.parts.harts) i)
tied-heard m h f there i =
    search (arith, cases_eq, m.harts, m.parts.harts, hears_own, tied-still, m.parts, f.ties, heard-at, flies-heard)

pub fits-heard : (m : Held) (h : ℕ) → Fits m → h < length m.harts → Fits (heard h m)
fits-heard m h f there = search (arith, with-harts, m.parts, length-hears_first, tied-heard)

-- whether a call that these harts have heard may take effect
ready-counted : (m : Held) (h : ℕ) (heard : List Bool) → Fits m →
    is_ready (core_in m) h heard ≡ all_below (length m.parts.harts) (λ i. lets_pass h heard i (kept_at m.parts.harts i).halted)
unfolding all_below
ready-counted m h heard f =
    let low : ℕ → Bool = λ i. lets_pass h heard i (kept_at m.parts.harts i).halted in
    sym (all-numbered (λ (p : ℕ × Seen). lets_pass h heard p.0 (halted_by p.1.status)) low nobody_seen 0 (seen_from 0 m.harts m.parts.harts)
    (numbered (λ k (x : Seen). lets_pass h heard k (halted_by x.status)) low m.harts m.parts.harts
    (λ j. ap (λ b. lets_pass h heard j b)
    (halted-seen (own_call j (hart_among m.harts j)) (kept_at m.parts.harts j).flight (hart_among m.harts j).progress
    ∙ sym (f.ties j).halted))))
    ∙ ap (λ n. all_below n low) (as-many m f.count)

-- a waiting hart's call may take effect in both or in neither
pub ready-alike : (m : Held) (h : ℕ) → Fits m → h < length m.harts → (hart_among m.harts h).progress ≡ G.Waiting →
    is_ready (core_in m) h (hearers (kept_at m.parts.harts h).flight) ≡ ready_kept h m.parts.harts
ready-alike m h f there w = search (arith, ready-counted)

-- a hart counts as halted as before it announced a call
halted-still : (kept : List Kept) (h first count i : ℕ) → h < length kept →
    (kept_at (at_hart h (announced h first count) kept) i).halted ≡ (kept_at kept i).halted
halted-still kept h first count i there = by (cases_eq i h)
  where
    by : (i ≡ h) ⊎ (i ≢ h) → (kept_at (at_hart h (announced h first count) kept) i).halted ≡ (kept_at kept i).halted
    by (inl e) = subst (λ (n : ℕ). (kept_at (at_hart h (announced h first count) kept) n).halted ≡ (kept_at kept n).halted) (sym e)
        (ap (λ (k : Kept). k.halted) (kept_at-same kept h (announced h first count) there))
    by (inr ne) = ap (λ (k : Kept). k.halted) (kept_at-other kept h (announced h first count) i ne)

-- and so may a call that is just announced
pub ready-now : (m : Held) (h first count : ℕ) → Fits m → h < length m.harts →
    is_ready (core_in m) h nobody ≡ ready_kept h (at_hart h (announced h first count) m.parts.harts)
ready-now m h first count f there =
    let kept = m.parts.harts in
    let long : h < length kept = omega (arith, there, f.count) in
    let new = at_hart h (announced h first count) kept in
    search (arith, ready-counted, all_below_agree, halted-still, length-at_hart, kept_at-same)

-- the calls that keep hart h from keeping a span are the same in both
bars-at : (m : Held) (h : ℕ) (s : Span) → length m.harts ≡ length m.parts.harts → OthersTied m h →
    list_any (λ (r : ℕ × ℕ). meets s r.0 r.1) (heard_ranges (core_in m) h) ≡ is_forbidden h s m.parts.harts
unfolding all_below
bars-at m h s n others =
    let low : ℕ → Bool = λ i. hart_forbids h s m.parts.harts i in
    let test : ℕ × ℕ → Bool = λ r. meets s r.0 r.1 in
    sym (not-not (list_any test (heard_ranges (core_in m) h)))
    ∙ ap not (sym (none-numbered (λ (p : ℕ × Seen). cond (p.0 == h) None (flight_range (core_in m) (heard_range h) p.1.status)) test low
    nobody_seen
    0 (seen_from 0 m.harts m.parts.harts)
    (numbered (λ k (x : Seen). some_passes test (cond (k == h) None (flight_range (core_in m) (heard_range h) x.status))) low m.harts
    m.parts.harts
    (hart-bars m h s others))))
    ∙ ap (λ k. not (all_below k (λ i. not (low i)))) (as-many m n)

pub bars-alike : (m : Held) (h : ℕ) → length m.harts ≡ length m.parts.harts → OthersTied m h → BarsAlike (rest_of m) m.parts h
bars-alike m h n others = record { at = λ s. bars-at m h s n others }
