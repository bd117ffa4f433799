-- A machine that goes on from a valid snapshot's parts is the snapshot's state.
use Rattle.std.proofs.Common.{◌≡◌, ℕ, zero, suc, ◌+◌, ◌-◌, ◌<◌, ◌≤◌, Bool, false, cond, List, [], ◌∷◌, ◌++◌, length, get_or, set, replicate}
use Rattle.std.proofs.Common.{Option, Some, None, refl, sym, ap, ◌∙◌, subst, arith, append_assoc, length-append}
use Rattle.std.proofs.Common.{map as list_map}
use Rattle.std.specs.List.{enumerate_from}
use Rattle.std.proofs.lemmas.Bool.{eq-eqb, eqb-true, ne_eqb}
use Rattle.std.proofs.lemmas.List.{append-nil, ext_get_or, get_or-map, get_or_append_left, length-map, map-append, set-append_right}
use Rattle.mx_words.specs.declared.perm.Perm.{Perm}
use Rattle.mx_words.specs.Caches.{Cache, no_cache}
use Rattle.mx_words.specs.Newest.{Grant, map, owners}
use Rattle.mx_words.proofs.CountingLaws.{length-list_below, list_below-at}
use Rattle.mx_check.specs.declared.flight.Flight.{Flight}
use Rattle.mx_check.specs.Calls.{waiting_hart, waiting_harts}
use Rattle.mx_check.specs.Flights.{flight_of}
use Rattle.mx_check.specs.Harts.{Kept}
use Rattle.mx_check.specs.Harts.{kept_at, nothing_kept}
use Rattle.mx_heap.specs.HeapState.{HeapState}
use Rattle.mx_model.specs.State.{Core, Flat, Hart, Module, Stack, flat, module_at, most_modules, no_module}
use Rattle.mx_supervisor.specs.Parts.{modules_from, with_heap}
use Rattle.mx_machine.specs.declared.starts.StackArea.{StackArea}
use Rattle.mx_machine.specs.declared.views.HartStatus.{HartStatus}
use Rattle.mx_machine.specs.declared.views.HartStatus.TheVariants as V
use Rattle.mx_machine.specs.Harts.{own_call, seen, seen_from, seen_with, status_by}
use Rattle.mx_machine.specs.Held.{beside, home, homes_from, told}
use Rattle.mx_machine.specs.Held.{no_area as no_stack}
use Rattle.mx_machine.specs.Starts.{progress_of, resumed, resumed_hart}
use Rattle.mx_snapshot.proofs.ValidHarts.{no_stored}
use Rattle.mx_snapshot.proofs.ValidLists.{each_at}
use Rattle.mx_snapshot.proofs.ValidState.{home-fits}
use Rattle.mx_snapshot.specs.Fits.{IsStored, IsStoredModule}
use Rattle.mx_snapshot.specs.Resumed.{core_of, hart_in_state, laid_runs, running, state_of, status_in}
use Rattle.mx_snapshot.specs.Resuming.{dead_in, flight_in, flights_from, flights_in, heap_in, own_flights, parts_in, stack_in, state_in}
use Rattle.mx_snapshot.specs.Stored.{Stored, StoredHart, StoredModule}

-- the call of a hart in flight, where it waits
abbrev pub flight_if : ℕ → List HeapState → ℕ → StoredHart → HartStatus → Option Flight
flight_if words heaps h x V.Running = None
flight_if words heaps h x V.Waiting = Some (flight_in words heaps h x)
flight_if words heaps h x V.Halted = None

module _ (words : ℕ) (heaps : List HeapState) where
  -- the calls of other harts
  skips : (h : ℕ) (x : StoredHart) (status : HartStatus) (rest : List Flight) (i : ℕ) → (h ≡ i → ⊥)
      → flight_of (own_flights words heaps h x status ++ rest) i ≡ flight_of rest i
  skips h x V.Running rest i ne = refl
  skips h x V.Waiting rest i ne = ap (λ b. cond b (Some (flight_in words heaps h x)) (flight_of rest i)) (ne_eqb h i ne)
  skips h x V.Halted rest i ne = refl

  flights-before : (h : ℕ) (xs : List StoredHart) (i : ℕ) → i < h → flight_of (flights_from words heaps h xs) i ≡ None
  flights-before h [] i lt = refl
  flights-before h (x ∷ xs) i lt =
      skips h x x.status (flights_from words heaps (h + 1) xs) i (λ e. let q : ⊥ = omega (arith, lt, e) in q)
      ∙ flights-before (h + 1) xs i (omega (arith, lt))

  pub flights-later : (h : ℕ) (xs : List StoredHart) (i : ℕ) → h + length xs ≤ i → flight_of (flights_from words heaps h xs) i ≡ None
  flights-later h [] i le = refl
  flights-later h (x ∷ xs) i le =
      skips h x x.status (flights_from words heaps (h + 1) xs) i (λ e. let q : ⊥ = omega (arith, le, e) in q)
      ∙ flights-later (h + 1) xs i (omega (arith, le))

  -- that of the first hart
  flight-here : (h : ℕ) (x : StoredHart) (status : HartStatus) (rest : List Flight) → flight_of rest h ≡ None
      → flight_of (own_flights words heaps h x status ++ rest) h ≡ flight_if words heaps h x status
  flight-here h x V.Running rest none = none
  flight-here h x V.Waiting rest none = ap (λ b. cond b (Some (flight_in words heaps h x)) (flight_of rest h)) (eq-eqb h h refl)
  flight-here h x V.Halted rest none = none

  pub flights-at : (h : ℕ) (xs : List StoredHart) (i j : ℕ) → h + i ≡ j → i < length xs →
      flight_of (flights_from words heaps h xs) j ≡ flight_if words heaps j (get_or xs i no_stored) (get_or xs i no_stored).status
  flights-at h [] i j e lt = absurd (let q : ⊥ = omega (arith, lt) in q)
  flights-at h (x ∷ xs) zero j e lt =
      subst (λ (k : ℕ). flight_of (flights_from words heaps h (x ∷ xs)) k ≡ flight_if words heaps k x x.status) (let same : h ≡ j =
      omega (arith, e) in same)
      (flight-here h x x.status (flights_from words heaps (h + 1) xs) (flights-before (h + 1) xs h (omega arith)))
  flights-at h (x ∷ xs) (suc i) j e lt =
      skips h x x.status (flights_from words heaps (h + 1) xs) j (λ same. let q : ⊥ = omega (arith, e, same) in q)
      ∙ flights-at (h + 1) xs i j (omega (arith, e)) (omega (arith, lt))

  -- one more hart
  pub flights-more : (h : ℕ) (xs : List StoredHart) (x : StoredHart) →
      flights_from words heaps h (xs ++ x ∷ []) ≡ flights_from words heaps h xs ++ own_flights words heaps (h + length xs) x x.status
  flights-more h [] x =
      let e : h ≡ h + 0 = omega arith in
      append-nil (own_flights words heaps h x x.status) ∙ ap (λ (k : ℕ). own_flights words heaps k x x.status) e
  flights-more h (y ∷ xs) x =
      let e : h + 1 + length xs ≡ h + suc (length xs) = omega arith in
      let front = own_flights words heaps h y y.status in
      ap (λ (fs : List Flight). front ++ fs) (flights-more (h + 1) xs x
      ∙ ap (λ (k : ℕ). flights_from words heaps (h + 1) xs ++ own_flights words heaps k x x.status) e)
      ∙ sym (append_assoc front (flights_from words heaps (h + 1) xs) (own_flights words heaps (h + suc (length xs)) x x.status))

  own-few : (h : ℕ) (x : StoredHart) (status : HartStatus) → length (own_flights words heaps h x status) ≤ 1
  own-few h x x1 = grind arith

  pub flights-few : (h : ℕ) (xs : List StoredHart) → length (flights_from words heaps h xs) ≤ length xs
  flights-few h [] = omega arith
  flights-few h (x ∷ xs) =
      let both = length-append (own_flights words heaps h x x.status) (flights_from words heaps (h + 1) xs) in
      let one = own-few h x x.status in
      let rest = flights-few (h + 1) xs in
      omega (arith, both, one, rest)

  -- a hart as it is seen
  seen-status : (h : ℕ) (x : StoredHart) (status : HartStatus) →
      seen_with (status_by (own_call h (resumed_hart (state_in x))) (flight_if words heaps h x status) (progress_of status))
      (resumed_hart (state_in x))
      ≡ record (running x) { status = status_in h x status }
  seen-status h x x1 = grind arith

  seen-one : (h : ℕ) (x : StoredHart) (k : Kept) → k.flight ≡ flight_if words heaps h x x.status
      → seen h (resumed_hart (state_in x)) k ≡ hart_in_state (h, x)
  seen-one h x k e = search (arith, seen-status)

  pub seen-all : (h : ℕ) (xs : List StoredHart) (kept : List Kept) →
      ((i j : ℕ) → h + i ≡ j → i < length xs → (kept_at kept j).flight
      ≡ flight_if words heaps j (get_or xs i no_stored) (get_or xs i no_stored).status) →
      seen_from h (list_map resumed_hart (list_map state_in xs)) kept ≡ list_map hart_in_state (enumerate_from h xs)
  seen-all h [] kept each = refl
  seen-all h (x ∷ xs) kept each =
      ap (λ (y : Hart). y ∷ seen_from (h + 1) (list_map resumed_hart (list_map state_in xs)) kept)
      (seen-one h x (kept_at kept h) (each 0 h (omega arith) (omega arith)))
      ∙ ap (λ (ys : List Hart). hart_in_state (h, x) ∷ ys) (seen-all (h + 1) xs kept (λ i j e lt.
      each (suc i) j (omega (arith, e)) (omega (arith, lt))))

-- what is kept of a hart
pub kept-at : (flights : List Flight) (n h : ℕ) → h < n → kept_at (waiting_harts flights n) h ≡ waiting_hart flights h
kept-at flights n h lt = list_below-at n h (waiting_hart flights) nothing_kept lt

caches-none : (flights : List Flight) (xs : List StoredHart) → list_map (λ (k : Kept). k.cache) (waiting_harts flights (length xs))
    ≡ list_map (λ (x : StoredHart). no_cache) xs
caches-none flights xs =
    let kept = waiting_harts flights (length xs) in
    let many : length kept ≡ length xs = length-list_below (length xs) (waiting_hart flights) in
    let one : length (list_map (λ (k : Kept). k.cache) kept) ≡ length xs = length-map kept (λ (k : Kept). k.cache) ∙ many in
    ext_get_or no_cache (list_map (λ (k : Kept). k.cache) kept) (list_map (λ (x : StoredHart). no_cache) xs) (one
    ∙ sym (length-map xs (λ (x : StoredHart). no_cache)))
    (λ i lt.
    get_or-map (λ (k : Kept). k.cache) kept i nothing_kept no_cache (omega (arith, lt, one, many))
    ∙ ap (λ (k : Kept). k.cache) (kept-at flights (length xs) i (omega (arith, lt, one)))
    ∙ sym (get_or-map (λ (x : StoredHart). no_cache) xs i no_stored no_cache (omega (arith, lt, one))))

-- what is read after the last module
abbrev pub no_stored_module : StoredModule
no_stored_module = record { name = []; home = no_module; map = [] }

abbrev dead_of : StoredModule → Bool
dead_of m = m.home.dead

-- whether a module is dead
pub dead-at : (ms : List StoredModule) (i j : ℕ) → 1 + i ≡ j → i < length ms
    → get_or (dead_in ms) j false ≡ (get_or ms i no_stored_module).home.dead
dead-at ms i j e lt =
    let next : suc i ≡ j = omega (arith, e) in
    subst (λ (k : ℕ). get_or (dead_in ms) k false ≡ (get_or ms i no_stored_module).home.dead) next
    (get_or_append_left (list_map dead_of ms) (replicate (most_modules - length ms) false) false i
    (omega (arith, lt, length-map ms dead_of))
    ∙ get_or-map dead_of ms i no_stored_module false lt)

-- one more module
pub dead-more : (ms : List StoredModule) (m : StoredModule) → length ms < 63
    → set (dead_in ms) (length ms + 1) m.home.dead ≡ dead_in (ms ++ m ∷ [])
dead-more ms m lt =
    let front = list_map dead_of ms in
    let long : length front ≡ length ms = length-map ms dead_of in
    let next : length ms + 1 ≡ suc (length ms) = omega arith in
    let rest = 62 - length ms in
    let behind : 63 - length ms ≡ suc rest = omega (arith, lt) in
    let fewer : 63 - length (ms ++ m ∷ []) ≡ rest = omega (arith, length-append ms (m ∷ [])) in
    let place : length ms - length ms ≡ 0 = omega arith in
    ap (λ (k : ℕ). set (dead_in ms) k m.home.dead) next
    ∙ ap (λ (bs : List Bool). false ∷ bs)
    (set-append_right front (replicate (63 - length ms) false) (length ms) (length ms) m.home.dead long (omega arith)
    ∙ ap (λ (k : ℕ). front ++ set (replicate (63 - length ms) false) k m.home.dead) place
    ∙ ap (λ (k : ℕ). front ++ set (replicate k false) 0 m.home.dead) behind
    ∙ sym (append_assoc front (m.home.dead ∷ []) (replicate rest false))
    ∙ ap (λ (bs : List Bool). bs ++ replicate rest false) (sym (map-append dead_of ms (m ∷ [])))
    ∙ ap (λ (k : ℕ). list_map dead_of (ms ++ m ∷ []) ++ replicate k false) (sym fewer))

-- an area of no words is (0, 0) anyway
told-same : (a : StackArea) → (a.words ≡ 0 → a.first ≡ 0) → told a ≡ record { first = a.first; words = a.words }
told-same a none = search (arith, a.words, eqb-true)

-- a module by its stack area and its heap
homes-at : (dead : List Bool) (d : ℕ) (stacks : List StackArea) (i j : ℕ) → d + i ≡ j → i < length stacks
    → get_or (homes_from dead d stacks) i no_module ≡ home dead j (get_or stacks i no_stack)
homes-at dead d [] i j e lt = absurd (let q : ⊥ = omega (arith, lt) in q)
homes-at dead d (a ∷ stacks) zero j e lt = ap (λ (k : ℕ). home dead k a) (let same : d ≡ j = omega (arith, e) in same)
homes-at dead d (a ∷ stacks) (suc i) j e lt = homes-at dead (d + 1) stacks i j (omega (arith, e)) (omega (arith, lt))

modules-are : (rest : Core) (d : ℕ) (ms : List StoredModule) → ((i j : ℕ) → d + i ≡ j → i < length ms
    → with_heap (module_at rest j) (heap_in (get_or ms i no_stored_module)) ≡ (get_or ms i no_stored_module).home) →
    modules_from rest d (list_map heap_in ms) ≡ list_map (λ (m : StoredModule). m.home) ms
modules-are rest d [] each = refl
modules-are rest d (m ∷ ms) each =
    ap (λ (x : Module). x ∷ modules_from rest (d + 1) (list_map heap_in ms)) (each 0 d (omega arith) (omega arith))
    ∙ ap (λ (xs : List Module). m.home ∷ xs) (modules-are rest (d + 1) ms (λ i j e lt.
    each (suc i) j (omega (arith, e)) (omega (arith, lt))))

module-is : (rest : Core) (dead : List Bool) (ms : List StoredModule) → rest.modules ≡ homes_from dead 1 (list_map stack_in ms) → (i j : ℕ)
    → 1 + i ≡ j → i < length ms
    → get_or dead j false ≡ (get_or ms i no_stored_module).home.dead
    → ((get_or ms i no_stored_module).home.stack.words ≡ 0 → (get_or ms i no_stored_module).home.stack.first ≡ 0)
    → with_heap (module_at rest j) (heap_in (get_or ms i no_stored_module)) ≡ (get_or ms i no_stored_module).home
module-is rest dead ms modules i j e lt is_dead none =
    let m = get_or ms i no_stored_module in
    let back : j - 1 ≡ i = omega (arith, e) in
    let place : module_at rest j ≡ home dead j (stack_in m) =
    ap (λ (xs : List Module). get_or xs (j - 1) no_module) modules
    ∙ ap (λ (k : ℕ). get_or (homes_from dead 1 (list_map stack_in ms)) k no_module) back
    ∙ homes-at dead 1 (list_map stack_in ms) i j e (omega (arith, lt, length-map ms stack_in))
    ∙ ap (home dead j) (get_or-map stack_in ms i no_stored_module no_stack lt) in
    ap (λ (x : Module). with_heap x (heap_in m)) place
    ∙ ap (λ (s : Stack). record { heap = m.home.heap; blocks = m.home.blocks; stack = s; kills = m.home.kills; dead = get_or dead j false })
    (told-same (stack_in m) none)
    ∙ ap (λ (b : Bool). record { heap = m.home.heap; blocks = m.home.blocks; stack = m.home.stack; kills = m.home.kills; dead = b }) is_dead

maps-are : (words : ℕ) (ms : List StoredModule) → list_map (λ (m : StoredModule). map (laid_runs 0 m.map) words) ms
    ≡ list_map (λ (g : List Grant). map g words) (list_map (λ (m : StoredModule). laid_runs 0 m.map) ms)
maps-are words [] = refl
maps-are words (m ∷ ms) = ap (λ (xs : List (List Perm)). map (laid_runs 0 m.map) words ∷ xs) (maps-are words ms)

-- a flat state with these harts, modules, caches and maps, and all else of a snapshot
abbrev flat_with : Stored → List Hart → List Module → List Cache → List (List Perm) → Flat
flat_with s harts modules caches maps = record {
  core = record (core_of s) { harts = harts; modules = modules; caches = caches };
  maps = maps;
  owners = owners (laid_runs 0 s.owners) s.head.words;
}

pub goes-on : (s : Stored) → IsStored s → resumed (parts_in s) (list_map state_in s.harts) (list_map stack_in s.modules) (dead_in s.modules)
    s.head.turns ≡ flat (state_of s)
goes-on s f =
    let flights = flights_in s in
    let heaps = list_map heap_in s.modules in
    let kept = waiting_harts flights (length s.harts) in
    let harts = seen_from 0 (list_map resumed_hart (list_map state_in s.harts)) kept in
    let rest = beside harts (list_map stack_in s.modules) (dead_in s.modules) s.head.turns in
    let modules = modules_from rest 1 heaps in
    let caches = list_map (λ (k : Kept). k.cache) kept in
    let maps = list_map (λ (m : StoredModule). map (laid_runs 0 m.map) s.head.words) s.modules in
    let harts_are : harts ≡ (core_of s).harts =
    seen-all s.head.words heaps 0 s.harts kept (λ i j e lt.
    ap (λ (k : Kept). k.flight) (kept-at flights (length s.harts) j (omega (arith, e, lt)))
    ∙ flights-at s.head.words heaps 0 s.harts i j e lt) in
    let modules_are : modules ≡ (core_of s).modules =
    modules-are rest 1 s.modules (λ i j e lt.
    module-is rest (dead_in s.modules) s.modules refl i j e lt (dead-at s.modules i j e lt)
    (let found = each_at (IsStoredModule s.head) s.modules [] f.modules i no_stored_module lt in
    (home-fits s.head found.0 (get_or s.modules i no_stored_module) found.2).no_stack)) in
    ap (λ (hs : List Hart). flat_with s hs modules caches maps) harts_are
    ∙ ap (λ (ms : List Module). flat_with s (core_of s).harts ms caches maps) modules_are
    ∙ ap (λ (cs : List Cache). flat_with s (core_of s).harts (core_of s).modules cs maps) (caches-none flights s.harts)
    ∙ ap (λ (ms : List (List Perm)). flat_with s (core_of s).harts (core_of s).modules (core_of s).caches ms)
    (maps-are s.head.words s.modules)
