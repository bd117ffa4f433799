-- A machine that starts or resumes is valid.
use Rattle.std.proofs.Common.{◌≡◌, ◌≢◌, ℕ, zero, suc, ◌+◌, ◌-◌, ◌*◌, ◌^◌, ◌<◌, ◌≤◌, ◌⊎◌, inl, inr, ◌==◌, Bool, true, cond, List, [], ◌∷◌}
use Rattle.std.proofs.Common.{length, get_or, replicate, refl, sym, ap, subst, ◌∙◌, arith, eq-eqb, Option, Some, None}
use Rattle.std.proofs.Common.{map as list_map}
use Rattle.std.specs.Prelude.{slice_get, slice_index, IfSome}
use Rattle.std.specs.List.{AllByRecursion}
use Rattle.std.proofs.lemmas.Bool.{cases_eq, cases_lt, ne_eqb}
use Rattle.std.proofs.lemmas.List.{get_or-map, get_or_past, length-map, length-set}
use Rattle.std.proofs.lemmas.Option.{get_or_from_slice_get, slice_get_within}
use Rattle.mx_words.specs.Caches.{Cache}
use Rattle.mx_words.specs.Ranges.{address_of, most_words}
use Rattle.mx_table.specs.Tables.{IsDomain}
use Rattle.mx_check.specs.declared.flight.Flight.{Flight}
use Rattle.mx_check.specs.Flights.{AreHearers}
use Rattle.mx_check.specs.Calls.{new_harts}
use Rattle.mx_check.specs.Harts.{Kept, kept_at}
use Rattle.mx_heap.specs.HeapState.{HeapState}
use Rattle.mx_model.specs.declared.values.Frame.{Frame}
use Rattle.mx_model.specs.Gates.{AreSingle, most_gates}
use Rattle.mx_model.specs.Reads.{Reads, flat_reads}
use Rattle.mx_model.specs.State.{Core, Module, no_module}
use Rattle.mx_model.specs.State.{Hart as Seen}
use Rattle.mx_model.specs.State.{no_hart as nobody_seen}
use Rattle.mx_model.specs.Valid.{IsFrame, IsGate, IsHart, IsHome, IsModule, IsPc, IsRegisters, IsValid}
use Rattle.mx_model.proofs.JoinLaws.{all-weaker}
use Rattle.mx_model.proofs.ListLaws.{all-at, all-in}
use Rattle.mx_model.proofs.SetLaws.{set-below}
use Rattle.mx_supervisor.specs.Heaps.{heap_at}
use Rattle.mx_supervisor.specs.Told.{IsTold}
use Rattle.mx_supervisor.specs.Parts.{IsSound, Parts, core_of, flat_of, with_heap}
use Rattle.mx_supervisor.proofs.Modules.{length-modules}
use Rattle.mx_machine.specs.declared.hart.Hart.{Hart}
use Rattle.mx_machine.specs.declared.starts.HartStart.{HartStart}
use Rattle.mx_machine.specs.declared.starts.HartState.{HartState}
use Rattle.mx_machine.specs.declared.starts.StackArea.{StackArea}
use Rattle.mx_machine.specs.declared.views.HartStatus.{HartStatus}
use Rattle.mx_machine.specs.declared.views.HartStatus.TheVariants as V
use Rattle.mx_machine.specs.Actions.{halted_first}
use Rattle.mx_machine.specs.Harts.{hart_among, is_halted, no_held_hart, own_call, seen, seen_with, status_by}
use Rattle.mx_machine.specs.Held.{Held, area_of, behind, beside, home, meaning, no_area, rest_of}
use Rattle.mx_machine.specs.Made.{core_in}
use Rattle.mx_machine.specs.Smalls.{IsSmallFrame, IsSmallStart, IsSmallState}
use Rattle.mx_machine.specs.Starts.{FliesIfWaiting, IsBackPlace, IsHartState, IsStack, IsStart, MayResume, MayStart, no_state, progress_of}
use Rattle.mx_machine.specs.Starts.{resumed, resumed_hart, started_from, started_hart}
use Rattle.mx_machine.specs.Ties.{Fits, IsWhole}
use Rattle.mx_coherence.specs.Coherence.{HasEmptyCaches, IsCoherent}
use Rattle.mx_machine.proofs.StaleLaws.{empty-caches, new-cache, unused-cache}
use Rattle.mx_machine.proofs.HartsAt.{hart-in, length-seen, seen-same}
use Rattle.mx_machine.proofs.HomeLaws.{IsHere, module-is}
use Rattle.mx_machine.proofs.SmallLaws.{from-each}
use Rattle.mx_machine.proofs.StartFits.{caches-halted, fits-resumed, fits-started, flight-halted, hart-there, held_resumed, held_started}
use Rattle.mx_machine.proofs.StartFits.{no_start}
use Rattle.mx_machine.proofs.StartLaws.{area-fits, length-started}

-- an area that lies in RAM or has no words, as it is told
stack-fits : (words first n size : ℕ) → (words ≡ 0) ⊎ (first + words * n ≤ size) → (words ≡ 0) ⊎ (words ≢ 0)
    → cond (words == 0) 0 first + words * n ≤ size
stack-fits words first n size s x = grind (arith, ne_eqb)

pub home-is : (size n : ℕ) (dead : List Bool) (d : ℕ) (a : StackArea) (heap : HeapState) → heap.area.first + heap.area.count ≤ size
    → IsTold heap → IsStack size n a →
    IsHome size n (with_heap (home dead d a) heap)
home-is size n dead d a heap in_ram is s = record {
  heap = in_ram;
  blocks = is.heap.apart;
  stack = stack-fits a.words a.first n size s (cases_eq a.words 0);
  few_blocks = is.heap.few;
  no_heap = is.no_words;
  no_stack = λ e. ap (λ b. cond b 0 a.first) (eq-eqb a.words 0 e);
}

-- what the parts of a machine say by themselves, and each of its harts
pub record HasValidParts (m : Held) : Type 0 where
  pub words : 1 ≤ m.parts.size
  pub some_maps : 1 ≤ length m.parts.maps
  pub bytes : (i : ℕ) → slice_index m.parts.ram i < 256
  pub heaps : (d : ℕ) → IsTold (heap_at m.parts.heaps d)
  pub few_gates : length m.parts.gates ≤ most_gates
  pub gates : AllByRecursion (IsGate (length m.parts.maps) m.parts.size) m.parts.gates
  pub one_gate : AreSingle m.parts.gates
  pub some_harts : 1 ≤ length m.harts
  pub stacks : AllByRecursion (IsStack m.parts.size (length m.harts)) m.stacks
  pub harts : (h : ℕ) → h < length m.harts → IsHart (length m.parts.maps) (length m.harts) h
      (seen h (hart_among m.harts h) (kept_at m.parts.harts h))

module _ (m : Held) (f : Fits m) (v : HasValidParts m) where
  as-modules : length (core_in m).modules ≡ length m.parts.maps
  as-modules = length-modules (rest_of m) 1 m.parts.heaps ∙ f.sound.heaps

  as-harts : length (core_in m).harts ≡ length m.harts
  as-harts = length-seen 0 m.harts m.parts.harts

  each-module : (i : ℕ) (x : Module) → slice_get (core_in m).modules i ≡ Some x → IsHome m.parts.size (length m.harts) x
  each-module i x e =
      let there : i < length m.parts.heaps = omega (arith, slice_get_within (core_in m).modules i x e, as-modules, f.sound.heaps) in
      let place : (i + 1) - 1 ≡ i = omega arith in
      let here : IsHere m (i + 1) = record { low = omega arith; high = omega (arith, there) } in
      let is : with_heap (home m.dead (i + 1) (area_of m.stacks (i + 1))) (heap_at m.parts.heaps (i + 1)) ≡ x =
      sym (module-is m (i + 1) f here) ∙ ap (λ k. get_or (core_in m).modules k no_module) place
      ∙ get_or_from_slice_get (core_in m).modules i x no_module e in
      let stack : IsStack m.parts.size (length m.harts) (area_of m.stacks (i + 1)) =
      all-in (IsStack m.parts.size (length m.harts)) m.stacks no_area v.stacks ((i + 1) - 1) (omega (arith, there, f.stacks)) in
      subst (IsHome m.parts.size (length m.harts)) is
      (home-is m.parts.size (length m.harts) m.dead (i + 1) (area_of m.stacks (i + 1)) (heap_at m.parts.heaps (i + 1))
      (f.sound.areas (i + 1)) (v.heaps (i + 1)) stack)

  each-hart : (h : ℕ) → h < length (core_in m).harts → IsHart (length (core_in m).modules) (length (core_in m).harts) h
      (get_or (core_in m).harts h nobody_seen)
  each-hart h lt = search (arith, as-modules, as-harts, hart-in, v.harts)

  pub valid-parts : IsValid (core_in m)
  valid-parts = record {
    some_words = v.words;
    few_words = f.sound.few_words;
    ram_count = f.sound.ram;
    ram_bytes = v.bytes;
    some_modules = omega (arith, v.some_maps, as-modules);
    few_modules = omega (arith, f.sound.few_maps, as-modules);
    modules = subst (λ k. AllByRecursion (IsHome m.parts.size k) (core_in m).modules) (sym as-harts)
        (from-each (IsHome m.parts.size (length m.harts)) (core_in m).modules each-module);
    some_harts = omega (arith, v.some_harts, as-harts);
    few_harts = omega (arith, f.few, as-harts);
    harts = each-hart;
    caches = length-map m.parts.harts (λ (k : Kept). k.cache) ∙ sym f.count ∙ sym as-harts;
    few_gates = v.few_gates;
    gates = subst (λ k. AllByRecursion (IsGate k m.parts.size) m.parts.gates) (sym as-modules) v.gates;
    one_gate = v.one_gate;
  }

-- the address after a stack area is a number of 32 bits
behind-small : (a : StackArea) (h : ℕ) → (a.words ≡ 0) ⊎ (a.first + a.words * (h + 1) ≤ most_words)
    → cond (a.words == 0) 0 (address_of (a.first + a.words * (h + 1))) < 2 ^ 32
behind-small a h x = grind (arith, eq-eqb)

zeros-small : (n i : ℕ) → get_or {A = ℕ} (replicate n 0) i 0 < 2 ^ 32
zeros-small zero i = omega arith
zeros-small (suc n) zero = omega arith
zeros-small (suc n) (suc i) = zeros-small n i

module-of : (p : Parts) (d : ℕ) → IsDomain p.maps d → IsModule (length p.maps) d
module-of p d i = record { first = i.first; last = i.last }

-- a hart that starts
pub hart-starts : (p : Parts) (stacks : List StackArea) (n h : ℕ) (s : HartStart) (k : Kept) → IsStart p s → s.pc < 2 ^ 32 →
    ((area_of stacks s.domain).words ≡ 0) ⊎ ((area_of stacks s.domain).first + (area_of stacks s.domain).words * (h + 1) ≤ most_words) →
    IsHart (length p.maps) n h (seen h (started_hart stacks h s) k)
hart-starts p stacks n h s k is small a = record {
  regs = record {
    count = length-set (replicate 32 0) 2 (behind stacks s.domain h);
    small = set-below (2 ^ 32) (replicate 32 0) 2 (behind stacks s.domain h) (zeros-small 32) (behind-small (area_of stacks s.domain) h a);
    x0 = refl;
  };
  pc = record { aligned = is.pc; small = small };
  domain = module-of p s.domain is.domain;
  few_frames = omega arith;
  frames = tt;
  status = tt;
}

-- frames that lead back
frames-are : (p : Parts) (fs : List Frame) → AllByRecursion (IsBackPlace p) fs → AllByRecursion IsSmallFrame fs
    → AllByRecursion (IsFrame (length p.maps)) fs
frames-are p [] b s = tt
frames-are p (f ∷ fs) b s = (
  record {
    back = record { aligned = b.0.back; small = s.0.back };
    caller = module-of p f.caller b.0.caller;
    count = s.0.kept.count;
    small = s.0.kept.small;
  },
  frames-are p fs b.1 s.1,
)

-- a hart that resumes, with such a call in flight
module _ (p : Parts) (n h : ℕ) (s : HartState) (is : IsHartState p s) (small : IsSmallState s) where
  registers : IsRegisters s.regs
  registers = record { count = small.regs.count; small = small.regs.small; x0 = is.x0 }

  pc-is : IsPc s.pc
  pc-is = record { aligned = is.pc; small = small.pc }

  abbrev seen-as : HartStatus → Option Flight → Seen
  seen-as v o = seen_with (status_by (own_call h (resumed_hart s)) o (progress_of v)) (resumed_hart s)

  resumes-as : (v : HartStatus) (o : Option Flight) → FliesIfWaiting p h s v o → IfSome o (AreHearers n h)
      → IsHart (length p.maps) n h (seen-as v o)
  resumes-as V.Running o t q = record {
    regs = registers;
    pc = pc-is;
    domain = module-of p s.domain is.domain;
    few_frames = small.frames.few;
    frames = frames-are p s.frames is.frames small.frames.each;
    status = tt;
  }
  resumes-as V.Waiting None t q = absurd t
  resumes-as V.Waiting (Some f) t q = record {
    regs = registers;
    pc = pc-is;
    domain = module-of p s.domain is.domain;
    few_frames = small.frames.few;
    frames = frames-are p s.frames is.frames small.frames.each;
    status = record { own = refl; announced = t.announced; places = q.places; others = q.others };
  }
  resumes-as V.Halted o t q = record {
    regs = registers;
    pc = pc-is;
    domain = module-of p s.domain is.domain;
    few_frames = small.frames.few;
    frames = frames-are p s.frames is.frames small.frames.each;
    status = tt;
  }

  pub hart-resumes : (k : Kept) → FliesIfWaiting p h s s.status k.flight → IfSome k.flight (AreHearers n h)
      → IsHart (length p.maps) n h (seen h (resumed_hart s) k)
  hart-resumes k t q = resumes-as s.status k.flight t q

-- stack areas of a machine, also of a domain that isn't there
pub stack-at : (size n most d : ℕ) (stacks : List StackArea) → size ≤ most → AllByRecursion (IsStack size n) stacks →
    ((area_of stacks d).words ≡ 0) ⊎ ((area_of stacks d).first + (area_of stacks d).words * n ≤ most)
stack-at size n most d stacks le h = wider (all-at (IsStack size n) stacks no_area h (inl refl) (d - 1))
  where
    wider : IsStack size n (area_of stacks d) → ((area_of stacks d).words ≡ 0)
        ⊎ ((area_of stacks d).first + (area_of stacks d).words * n ≤ most)
    wider (inl e) = inl e
    wider (inr q) = inr (omega (arith, q, le))

pub starts-in-modules : (p : Parts) (starts : List HartStart) → AllByRecursion (IsStart p) starts
    → AllByRecursion (λ (s : HartStart). 1 ≤ s.domain) starts
starts-in-modules p starts h = all-weaker (IsStart p) (λ (s : HartStart). 1 ≤ s.domain) starts (λ s is. is.domain.first) h

pub zero-registers : (p : Parts) (states : List HartState) → AllByRecursion (IsHartState p) states
    → AllByRecursion (λ (s : HartState). slice_index s.regs 0 ≡ 0) states
zero-registers p states h = all-weaker (IsHartState p) (λ (s : HartState). slice_index s.regs 0 ≡ 0) states (λ s is. is.x0) h

-- what the types of a supervisor's parts say of them
pub record AreTyped (p : Parts) : Type 0 where
  pub words : 1 ≤ p.size
  pub some_maps : 1 ≤ length p.maps
  pub bytes : (i : ℕ) → slice_index p.ram i < 256
  pub heaps : (d : ℕ) → IsTold (heap_at p.heaps d)
  pub few_gates : length p.gates ≤ most_gates
  pub gates : AllByRecursion (IsGate (length p.maps) p.size) p.gates
  pub one_gate : AreSingle p.gates

-- what the checker keeps after the harts that resume halted count as halted
abbrev kept_resumed : Parts → List HartState → List Kept
kept_resumed p states = halted_first (length (list_map resumed_hart states)) (list_map resumed_hart states) p.harts

-- a machine that starts
module _ (p : Parts) (starts : List HartStart) (stacks : List StackArea) (sound : IsSound p) (may : MayStart p starts stacks)
    (few : length starts ≤ 4)
    (small : AllByRecursion IsSmallStart starts) (typed : AreTyped p) (coherent : (r : Reads) (c : Core) → HasEmptyCaches c
    → IsCoherent r c) where
  each-start : (h : ℕ) → h < length starts →
      IsHart (length p.maps) (length starts) h (seen h (hart_among (started_from stacks 0 starts) h) (kept_at p.harts h))
  each-start h lt =
      let s = get_or starts h no_start in
      let area = area-fits (area_of stacks s.domain) most_words (length starts) h
      (stack-at p.size (length starts) most_words s.domain stacks sound.few_words may.areas) lt in
      subst (λ (x : Hart). IsHart (length p.maps) (length starts) h (seen h x (kept_at p.harts h)))
      (sym (hart-there p starts stacks sound may few h lt))
      (hart-starts p stacks (length starts) h s (kept_at p.harts h) (all-in (IsStart p) starts no_start may.each h lt)
      (all-in IsSmallStart starts no_start small h lt) area)

  started-parts : HasValidParts (held_started p starts stacks)
  started-parts = search (arith, length-started, p.size, p.harts, each-start)

  pub whole-started : IsWhole (held_started p starts stacks)
  whole-started =
      let m = held_started p starts stacks in
      let fits = fits-started p starts stacks sound may few in
      record {
        valid = valid-parts m fits started-parts;
        coherent = coherent (flat_reads (meaning m)) (core_in m) (empty-caches m (new_harts (length starts))
            (ap (λ (ks : List Kept). list_map (λ (k : Kept). k.cache) ks) may.new) (new-cache (length starts)));
        fits = fits;
      }

-- a machine that resumes, without what its types say
module _ (p : Parts) (states : List HartState) (stacks : List StackArea) (dead : List Bool) (steps : ℕ)
    (may : MayResume p states stacks dead steps) where
  pub as-many : length (list_map resumed_hart states) ≡ length p.harts
  as-many = length-map states resumed_hart ∙ sym may.same_harts

  same-flight : (h : ℕ) → (kept_at (kept_resumed p states) h).flight ≡ (kept_at p.harts h).flight
  same-flight h = flight-halted (list_map resumed_hart states) p.harts (length (list_map resumed_hart states)) h (omega (arith, as-many))

  pub meaning-resumed : meaning (held_resumed p states stacks dead steps) ≡ resumed p states stacks dead steps
  meaning-resumed =
      let harts = list_map resumed_hart states in
      let caches = list_map (λ (k : Kept). k.cache) (kept_resumed p states) in
      ap (λ (hs : List Seen). record (flat_of (beside hs stacks dead steps) p) {
        core =
            record (core_of (beside hs stacks dead steps) p) { caches = caches };
      })
      (seen-same 0 harts (kept_resumed p states) p.harts (λ i le. same-flight i))
      ∙ ap (λ (cs : List Cache). record (resumed p states stacks dead steps) {
        core =
            record (resumed p states stacks dead steps).core { caches = cs };
      })
      (caches-halted harts p.harts (length harts))

  -- a hart that resumes halted has no call in flight
  flies-not : (h : ℕ) (s : HartState) (v : HartStatus) (o : Option Flight) → FliesIfWaiting p h s v o → is_halted (progress_of v) ≡ true
      → o ≡ None
  flies-not h s V.Running o t e = t
  flies-not h s V.Waiting o t e = cc
  flies-not h s V.Halted o t e = t

  free-at : (h : ℕ) → (h < length states) ⊎ (length states ≤ h) → is_halted (hart_among (list_map resumed_hart states) h).progress ≡ true
      → (kept_at p.harts h).flight ≡ None
  free-at h x e = grind (arith, get_or-map, flies-not, get_or_past)

  pub free-resumed : (h : ℕ) → is_halted (hart_among (list_map resumed_hart states) h).progress ≡ true → (kept_at p.harts h).flight ≡ None
  free-resumed h = free-at h (cases_lt h (length states))

-- a machine that resumes
module _ (p : Parts) (states : List HartState) (stacks : List StackArea) (dead : List Bool) (steps : ℕ) (sound : IsSound p)
    (may : MayResume p states stacks dead steps) (few : length states ≤ 4) (places : length dead ≡ 64)
    (small : AllByRecursion IsSmallState states) (typed : AreTyped p)
    (hearers : (h : ℕ) → IfSome (kept_at p.harts h).flight (AreHearers (length p.harts) h))
    (coherent : (r : Reads) (c : Core) → HasEmptyCaches c → IsCoherent r c) where
  each-left : (h : ℕ) → h < length states → IsHart (length p.maps) (length states) h
      (seen h (hart_among (list_map resumed_hart states) h) (kept_at (kept_resumed p states) h))
  each-left h lt =
      let s = get_or states h no_state in
      let k = kept_at (kept_resumed p states) h in
      subst (λ (x : Hart). IsHart (length p.maps) (length states) h (seen h x k))
      (sym (get_or-map resumed_hart states h no_state no_held_hart lt))
      (hart-resumes p (length states) h s (all-in (IsHartState p) states no_state may.each h lt)
      (all-in IsSmallState states no_state small h lt) k
      (subst (λ (o : Option Flight). FliesIfWaiting p h s s.status o) (sym (same-flight p states stacks dead steps may h))
      (may.unused h lt).flight)
      (subst (λ (o : Option Flight). IfSome o (AreHearers (length states) h)) (sym (same-flight p states stacks dead steps may h))
      (subst (λ n. IfSome (kept_at p.harts h).flight (AreHearers n h)) may.same_harts (hearers h))))

  resumed-parts : HasValidParts (held_resumed p states stacks dead steps)
  resumed-parts = search (arith, length-map, p.size, kept_resumed, each-left)

  pub whole-resumed : IsWhole (held_resumed p states stacks dead steps)
  whole-resumed =
      let m = held_resumed p states stacks dead steps in
      let fits = fits-resumed p states stacks dead steps sound may few places in
      record {
        valid = valid-parts m fits resumed-parts;
        coherent = coherent (flat_reads (meaning m)) (core_in m) (empty-caches m p.harts
            (caches-halted (list_map resumed_hart states) p.harts (length (list_map resumed_hart states)))
            (unused-cache p states stacks dead steps may));
        fits = fits;
      }
