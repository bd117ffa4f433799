-- A checker, a supervisor and a machine may go on with a valid snapshot's parts.
use Rattle.std.proofs.Common.{◌≡◌, inr, ℕ, ◌+◌, ◌-◌, ◌<◌, ◌≤◌, Bool, true, false, List, [], ◌∷◌, ◌++◌, length, get_or, Option, refl, sym}
use Rattle.std.proofs.Common.{◌∙◌, subst, arith, length-append}
use Rattle.std.proofs.Common.{map as list_map}
use Rattle.std.specs.Prelude.{All}
use Rattle.std.specs.List.{AllByRecursion}
use Rattle.std.proofs.lemmas.Bool.{cases_lt}
use Rattle.std.proofs.lemmas.List.{get_or-map, get_or_past, length-map}
use Rattle.std.proofs.lemmas.List.Elements.{All-from_recursion}
use Rattle.mx_words.specs.declared.perm.Perm.{Perm}
use Rattle.mx_words.specs.Newest.{map}
use Rattle.mx_words.proofs.CountingLaws.{length-list_below}
use Rattle.mx_words.proofs.OverlayLaws.{length-map_of, length-owners}
use Rattle.mx_check.specs.declared.flight.Flight.{Flight}
use Rattle.mx_check.specs.Calls.{waiting_hart}
use Rattle.mx_check.specs.Conditions.{IsResumable}
use Rattle.mx_check.specs.Harts.{Kept}
use Rattle.mx_check.specs.Harts.{kept_at}
use Rattle.mx_heap.specs.HeapState.{HeapState}
use Rattle.mx_model.specs.declared.values.Frame.{Frame}
use Rattle.mx_model.specs.Turn.{call_of}
use Rattle.mx_model.specs.Valid.{IsFrame, IsGate, IsHart}
use Rattle.mx_model.proofs.JoinLaws.{all-join, all-weaker}
use Rattle.mx_model.proofs.ListLaws.{all-at, all-in}
use Rattle.mx_model.proofs.EachLaws.{all_each, all_mapped}
use Rattle.mx_table.specs.Tables.{IsDomain}
use Rattle.mx_supervisor.specs.Heaps.{no_heap}
use Rattle.mx_supervisor.specs.Parts.{IsSound}
use Rattle.mx_machine.specs.declared.starts.HartState.{HartState}
use Rattle.mx_machine.specs.declared.views.HartStatus.{HartStatus}
use Rattle.mx_machine.specs.declared.views.HartStatus.TheVariants as V
use Rattle.mx_machine.specs.Starts.{FliesIfWaiting, IsBackPlace, IsHartState, IsStack, IsUnused, MayResume, no_state}
use Rattle.mx_machine.proofs.RangeLaws.{range-within}
use Rattle.mx_snapshot.proofs.ValidGoes.{flight_if, flights-at, kept-at}
use Rattle.mx_snapshot.proofs.ValidHarts.{hart-fits, heard-by, no_stored, register-at}
use Rattle.mx_snapshot.proofs.ValidLists.{each_at, each_holds}
use Rattle.mx_snapshot.proofs.ValidRuns.{get_or-behind}
use Rattle.mx_snapshot.proofs.ValidState.{core-valid, gates-in, home-fits}
use Rattle.mx_snapshot.specs.Fits.{EachFits, IsStored, IsStoredHart, IsStoredModule}
use Rattle.mx_snapshot.specs.Resumed.{hart_in_state, laid_runs, running}
use Rattle.mx_snapshot.specs.Resuming.{dead_in, flights_from, flights_in, heap_in, own_flights, parts_in, stack_in, state_in}
use Rattle.mx_snapshot.specs.Rules.{is_heard, is_register}
use Rattle.mx_snapshot.specs.Stored.{Head, Stored, StoredHart, StoredModule}

module _ (s : Stored) (f : IsStored s) where
  abbrev h : Head
  h = s.head

  abbrev map_in : StoredModule → List Perm
  map_in m = map (laid_runs 0 m.map) h.words

  length-maps : length (parts_in s).maps ≡ h.modules
  length-maps = length-map s.modules map_in ∙ f.module_count

  length-heaps : length (parts_in s).heaps ≡ h.modules
  length-heaps = length-map s.modules heap_in ∙ f.module_count

  abbrev IsInside : HeapState → Type 0
  IsInside heap = heap.area.first + heap.area.count ≤ h.words

  heaps-inside : AllByRecursion IsInside (parts_in s).heaps
  heaps-inside = all_mapped heap_in IsInside s.modules (each_holds (IsStoredModule h) (λ (m : StoredModule). IsInside (heap_in m))
      (λ before m is. (home-fits h before m is).heap) s.modules [] f.modules)

  whole-maps : AllByRecursion (λ (m : List Perm). length m ≡ h.words) (parts_in s).maps
  whole-maps = all_mapped map_in (λ (m : List Perm). length m ≡ h.words) s.modules
      (all_each (λ (m : StoredModule). length (map_in m) ≡ h.words) s.modules (λ m. length-map_of (laid_runs 0 m.map) h.words))

  pub sound : IsSound (parts_in s)
  sound =
      let valid = core-valid s f in
      let many = length-maps in
      let modules = f.head.modules in
      record {
        few_words = valid.few_words;
        few_maps = subst (λ (k : ℕ). k ≤ 63) (sym many) modules.1;
        maps = λ d is.
            let low = is.first in
            let high = is.last in
            all-in (λ (m : List Perm). length m ≡ h.words) (parts_in s).maps [] whole-maps (d - 1) (omega (arith, low, high));
        ram = f.ram_count;
        owners = length-owners (laid_runs 0 s.owners) h.words;
        heaps = length-heaps ∙ sym many;
        areas = λ d. all-at IsInside (parts_in s).heaps no_heap heaps-inside (omega arith) (d - 1);
      }

  pub gates : AllByRecursion (IsGate (length (parts_in s).maps) h.words) s.gates
  gates = subst (λ (k : ℕ). AllByRecursion (IsGate k h.words) s.gates) (sym length-maps) (gates-in s f)

  -- calls in flight
  own-resumable : (n : ℕ) (x : StoredHart) (status : HartStatus) → n < length s.harts → is_heard h.harts n status x.heard ≡ true
      → AllByRecursion (IsResumable (length s.harts) h.words) (own_flights h.words (parts_in s).heaps n x status)
  own-resumable n x V.Running lt heard = tt
  own-resumable n x V.Waiting lt heard = (
    record {
      hart = lt;
      range = range-within (parts_in s) (call_of n (running x)) sound;
      heard = λ i within. let p = heard-by h.harts n x.heard heard i within in (subst (λ (k : ℕ). i < k) (sym f.hart_count) p.0, p.1);
    },
    tt,
  )
  own-resumable n x V.Halted lt heard = tt

  all-resumable : (xs before : List StoredHart) → EachFits (IsStoredHart h) before xs → length before + length xs ≡ length s.harts
      → AllByRecursion (IsResumable (length s.harts) h.words) (flights_from h.words (parts_in s).heaps (length before) xs)
  all-resumable [] before fits count = tt
  all-resumable (x ∷ xs) before fits count =
      let long = length-append before (x ∷ []) in
      let next : length (before ++ x ∷ []) ≡ length before + 1 = long in
      let rest = all-resumable xs (before ++ x ∷ []) fits.1 (omega (arith, count, long)) in
      all-join (IsResumable (length s.harts) h.words) (own_flights h.words (parts_in s).heaps (length before) x x.status)
      (flights_from h.words (parts_in s).heaps (length before + 1) xs)
      (own-resumable (length before) x x.status (omega (arith, count)) fits.0.heard)
      (subst (λ (k : ℕ). AllByRecursion (IsResumable (length s.harts) h.words) (flights_from h.words (parts_in s).heaps k xs)) next rest)

  pub flights : All (IsResumable (length s.harts) h.words) (flights_in s)
  flights = All-from_recursion (IsResumable (length s.harts) h.words) (flights_in s) (all-resumable s.harts [] f.harts (omega arith))

  -- harts
  hart-state : (before : List StoredHart) (x : StoredHart) → IsStoredHart h before x → IsHartState (parts_in s) (state_in x)
  hart-state before x is =
      let fits : IsHart h.modules h.harts (length before) (hart_in_state (length before, x)) =
      hart-fits h before x (length before) refl is in
      record {
        domain = record { first = fits.domain.first; last = subst (λ (k : ℕ). x.domain ≤ k) (sym length-maps) fits.domain.last };
        pc = fits.pc.aligned;
        x0 = fits.regs.x0;
        frames = all-weaker (IsFrame h.modules) (IsBackPlace (parts_in s)) x.frames
            (λ (g : Frame) is. record {
              back = is.back.aligned;
              caller =
                  record { first = is.caller.first; last = subst (λ (k : ℕ). g.caller ≤ k) (sym length-maps) is.caller.last };
            })
            fits.frames;
      }

  abbrev flies : ℕ → StoredHart → HartStatus → Type 0
  flies n x status = FliesIfWaiting (parts_in s) n (state_in x) status (flight_if h.words (parts_in s).heaps n x status)

  hart-flies : (n : ℕ) (x : StoredHart) (status : HartStatus) → is_register status 17 (get_or x.regs 17 0) ≡ true → flies n x status
  hart-flies n x x1 number = grind arith

  hart-unused : (n : ℕ) → n < length s.harts → IsUnused (parts_in s) n (get_or (list_map state_in s.harts) n no_state)
      (kept_at (parts_in s).harts n)
  hart-unused n lt =
      let x = get_or s.harts n no_stored in
      let found = each_at (IsStoredHart h) s.harts [] f.harts n no_stored lt in
      let is = found.2 in
      let count = is.count in
      let call = flights-at h.words (parts_in s).heaps 0 s.harts n n (omega arith) lt in
      let unused : IsUnused (parts_in s) n (state_in x) (waiting_hart (flights_in s) n) = record {
        cache = refl;
        halted = refl;
        domain = refl;
        flight = subst (λ (o : Option Flight). FliesIfWaiting (parts_in s) n (state_in x) x.status o) (sym call)
            (hart-flies n x x.status (register-at x.status x.regs 17 is.regs (omega (arith, count))));
      } in
      let one = subst (λ (k : Kept). IsUnused (parts_in s) n (state_in x) k) (sym (kept-at (flights_in s) (length s.harts) n lt)) unused in
      subst (λ (y : HartState). IsUnused (parts_in s) n y (kept_at (parts_in s).harts n))
      (sym (get_or-map state_in s.harts n no_stored no_state lt)) one

  -- modules
  abbrev dead_of : StoredModule → Bool
  dead_of m = m.home.dead

  dead-is : (d : ℕ) → get_or (dead_in s.modules) d false ≡ true → IsDomain (parts_in s).maps d
  dead-is x e = grind (arith, length-maps, dead_of, get_or-behind, length-map, get_or_past, cases_lt)

  pub may : MayResume (parts_in s) (list_map state_in s.harts) (list_map stack_in s.modules) (dead_in s.modules) h.turns
  may =
      let states = length-map s.harts state_in in
      let count = f.hart_count in
      let harts = f.head.harts in
      record {
        some_harts = omega (arith, states, count, harts.0);
        same_harts = length-list_below (length s.harts) (waiting_hart (flights_in s)) ∙ sym states;
        each = all_mapped state_in (IsHartState (parts_in s)) s.harts
            (each_holds (IsStoredHart h) (λ (x : StoredHart). IsHartState (parts_in s) (state_in x)) hart-state s.harts [] f.harts);
        unused = λ n lt. hart-unused n (omega (arith, lt, states));
        count = length-map s.modules stack_in ∙ sym (length-map s.modules map_in);
        areas = subst (λ (k : ℕ). AllByRecursion (IsStack h.words k) (list_map stack_in s.modules)) (sym (states ∙ count))
            (all_mapped stack_in (IsStack h.words h.harts) s.modules
            (each_holds (IsStoredModule h) (λ (m : StoredModule). IsStack h.words h.harts (stack_in m)) (λ before m is.
            inr (home-fits h before m is).stack) s.modules [] f.modules));
        dead_modules = dead-is;
        few_steps = f.head.turns;
      }

pub parts-sound : (s : Stored) → IsStored s → IsSound (parts_in s)
parts-sound s f = sound s f

pub gates-fit : (s : Stored) → IsStored s → AllByRecursion (IsGate (length (parts_in s).maps) s.head.words) s.gates
gates-fit s f = gates s f

pub flights-fit : (s : Stored) → IsStored s → All (IsResumable (length s.harts) s.head.words) (flights_in s)
flights-fit s f = flights s f

pub may-go : (s : Stored) → IsStored s → MayResume (parts_in s) (list_map state_in s.harts) (list_map stack_in s.modules)
    (dead_in s.modules) s.head.turns
may-go s f = may s f
