-- The end of a call: an announced one is no longer in flight, and its hart drops its own spans on the range.
use Rattle.std.proofs.Common.{◌≡◌, ℕ, ◌<◌, true, false, List, length, set, Option, Some, None, inl, inr, sym, ap, subst, ◌∙◌, arith}
use Rattle.std.proofs.Common.{length-set, get_or-set_same, get_or-set_other}
use Rattle.std.proofs.Common.{map as list_map}
use Rattle.std.specs.Prelude.{IfSome}
use Rattle.std.proofs.Math.ListN.{get_or-map}
use Rattle.std.proofs.lemmas.List.{map-set}
use Rattle.mx_words.specs.Announced.{announced, is_announced}
use Rattle.mx_words.specs.Caches.{Cache, without_range}
use Rattle.mx_words.specs.FirstFit.{Area}
use Rattle.mx_check.specs.declared.flight.Flight.{Flight}
use Rattle.mx_check.specs.Calls.{ready_with}
use Rattle.mx_check.specs.Harts.{Kept, nothing_kept, kept_at, at_hart, without_flight_range, finished}
use Rattle.mx_model.specs.declared.values.Call.{Call}
use Rattle.mx_model.specs.Checks.{arg, call_range, drops}
use Rattle.mx_model.specs.Reads.{flat_reads}
use Rattle.mx_model.specs.Serve.{serve}
use Rattle.mx_model.specs.State.{Core, cache_at}
use Rattle.mx_supervisor.specs.declared.answer.Answer.{Answer}
use Rattle.mx_supervisor.specs.Looks.{KeepsHarts}
use Rattle.mx_supervisor.specs.Parts.{Parts, core_of, flat_of}
use Rattle.mx_supervisor.specs.Served.{IsServed, HasAnnounced, Meets, range_of, flight_after, served_row}
use Rattle.mx_supervisor.proofs.Answering.{with-harts}
use Rattle.mx_supervisor.proofs.Modules.{module-heap}
use Rattle.mx_supervisor.proofs.Looking.{cache_of}

-- the range that the model's call announces is that of the parts
pub range-is : (rest : Core) (p : Parts) (call : Call) → call_range (core_of rest p) call ≡ range_of p call
range-is rest p call =
    ap (λ (a : Area). announced call.number (arg call 0) (arg call 1) p.size (a.first, a.count)) (module-heap rest p call.domain)

-- what a ready call drops at its end
ended-is : (h : ℕ) (harts : List Kept) (o : Option Flight) (r : ℕ × ℕ) (c : Cache) → IfSome o (λ f. (f.first ≡ r.0) × (f.count ≡ r.1))
    → ready_with h o harts ≡ true →
    without_flight_range o c ≡ without_range r.0 r.1 c
ended-is h harts None r c range ready = absurd (let q : ⊥ = cc in q)
ended-is h harts (Some f) r c range ready =
    ap (λ n. without_range n f.count c) range.0 ∙ ap (λ n. without_range r.0 n c) range.1

-- the state after it
core-ended : (rest : Core) (call : Call) (p q : Parts) → HasAnnounced p call
    → (kept_at q.harts call.hart).flight ≡ (kept_at p.harts call.hart).flight →
    core_of rest (record q { harts = at_hart call.hart finished q.harts })
    ≡ drops call.hart (call_range (core_of rest p) call) (core_of rest q)
core-ended rest call p q announced same =
    let h = call.hart in
    let k = kept_at q.harts h in
    let caches = list_map cache_of q.harts in
    let r = range_of p call in
    let kept : cache_of k ≡ cache_at (core_of rest q) h = sym (get_or-map cache_of q.harts h nothing_kept) in
    ap (λ (cs : List Cache). record (core_of rest q) { caches = cs }) (
    map-set cache_of q.harts h (finished k)
    ∙ ap (λ (o : Option Flight). set caches h (without_flight_range o (cache_of k))) same
    ∙ ap (λ (c : Cache). set caches h c) (ended-is h p.harts (kept_at p.harts h).flight r (cache_of k) announced.range announced.ready)
    ∙ ap (λ (c : Cache). set caches h (without_range r.0 r.1 c)) kept)
    ∙ ap (λ (x : ℕ × ℕ). drops h x (core_of rest q)) (sym (range-is rest p call))

-- what the checker keeps after it
harts-ended : (call : Call) (old now : List Kept) → call.hart < length old → KeepsHarts call (kept_at old call.hart).flight old now →
    KeepsHarts call None old (at_hart call.hart finished now)
harts-ended call old now there keeps =
    let h = call.hart in
    let is : h < length now = let e = keeps.count in omega (arith, e, there) in
    let own : kept_at (at_hart h finished now) h ≡ finished (kept_at now h) =
    get_or-set_same now h (finished (kept_at now h)) nothing_kept is in
    record {
      count = length-set now h (finished (kept_at now h)) ∙ keeps.count;
      others = λ i ne. get_or-set_other now h i (finished (kept_at now h)) nothing_kept ne ∙ keeps.others i ne;
      halted = ap (λ (k : Kept). k.halted) own ∙ keeps.halted;
      flight = ap (λ (k : Kept). k.flight) own;
      domain = elim keeps.domain [ inl e ↦ inl (ap (λ (k : Kept). k.domain) own ∙ e) | inr e ↦ inr (ap (λ (k : Kept). k.domain) own ∙ e) ];
    }

-- an announced call as a whole
pub ended-meets : (call : Call) (p q : Parts) (bytes : List ℕ) (a : Answer) → is_announced call.number ≡ true → HasAnnounced p call →
    Meets served_row call (kept_at p.harts call.hart).flight p q bytes a →
    Meets serve call (flight_after call p.harts) p (record q { harts = at_hart call.hart finished q.harts }) bytes a
ended-meets call p q bytes a is announced m =
    let after : None ≡ flight_after call p.harts = rw is in
    record {
      served = λ rest bars.
          let s : IsServed rest p q bytes a (served_row (flat_reads (flat_of rest p)) (core_of rest p) call) = m.served rest bars in
          rw is (record {
            core = core-ended rest call p q announced m.harts.flight ∙ ap (drops call.hart (call_range (core_of rest p) call)) s.core;
            maps = s.maps;
            owners = s.owners;
            console = s.console;
            a0 = s.a0;
            a1 = s.a1;
            stop = s.stop;
          });
      refused = λ e. let r = m.refused e in record {
        maps = r.maps;
        owners = r.owners;
        gates = r.gates;
        heaps = r.heaps;
        ram = r.ram;
        console = r.console;
      };
      harts = subst (λ (o : Option Flight). KeepsHarts call o p.harts (at_hart call.hart finished q.harts)) after
          (harts-ended call p.harts q.harts announced.hart m.harts);
      sizes = record { size = m.sizes.size; limit = m.sizes.limit; modules = m.sizes.modules };
      sound = with-harts q (at_hart call.hart finished q.harts) m.sound;
    }

-- another call as a whole
pub row-meets : (call : Call) (p q : Parts) (bytes : List ℕ) (a : Answer) → is_announced call.number ≡ false →
    Meets served_row call (kept_at p.harts call.hart).flight p q bytes a → Meets serve call (flight_after call p.harts) p q bytes a
row-meets call p q bytes a is m =
    let after : (kept_at p.harts call.hart).flight ≡ flight_after call p.harts = rw is in
    record {
      served = λ rest bars. rw is (m.served rest bars);
      refused = m.refused;
      harts = subst (λ (o : Option Flight). KeepsHarts call o p.harts q.harts) after m.harts;
      sizes = m.sizes;
      sound = m.sound;
    }

-- whether the hart may look again: a call in flight ended leaves none, and the others stay
