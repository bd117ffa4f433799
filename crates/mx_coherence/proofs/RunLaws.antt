-- Coherence of flat states: where caches are empty, through turns, and through runs.
use Rattle.std.proofs.Common.{◌≡◌, ℕ, zero, suc, ◌+◌, ◌-◌, ◌<◌, ◌≤◌, ◌⊎◌, Bool, true, false, cond, List, [], ◌∷◌, length, get_or, refl, sym}
use Rattle.std.proofs.Common.{ap, subst, ◌∙◌, ◌==◌, zero-add, Option, Some, None}
use Rattle.std.proofs.Common.{map as list_map}
use Rattle.std.specs.List.{AllByRecursion}
use Rattle.std.proofs.lemmas.Bool.{eqb-false}
use Rattle.mx_words.specs.declared.perm.Perm.{Perm}
use Rattle.mx_words.specs.declared.perm.Perm.TheVariants as P
use Rattle.mx_words.specs.Caches.{Cache}
use Rattle.mx_words.specs.Hearing.{heard_range, is_in}
use Rattle.mx_words.specs.Newest.{Grant, map}
use Rattle.mx_words.specs.Reach.{span}
use Rattle.mx_words.specs.Rights.{perm_at}
use Rattle.mx_words.proofs.OverlayLaws.{covers_from, length-map_of}
use Rattle.mx_words.proofs.ReachLaws.{span_round}
use Rattle.mx_words.specs.KeptSpans.{IsClear, IsEmpty}
use Rattle.mx_model.specs.Checks.{call_range, flight_range, heard_ranges, is_halted}
use Rattle.mx_model.specs.Reads.{Change, Reads, flat_reads, map_in, reads}
use Rattle.mx_model.specs.Run.{Schedule, flat_made, flat_turn, hart_of, is_stopped, maps_after, run, turn}
use Rattle.mx_model.specs.State.{Core, Flat, Hart, State, Status, Running, Waiting, Halted, cache_at, flat, hart_at}
use Rattle.mx_model.specs.Valid.{IsFlat, IsValid}
use Rattle.mx_model.proofs.FlatLaws.{flat-turn}
use Rattle.mx_model.proofs.KeepLaws.{keeps-turned}
use Rattle.mx_model.proofs.TurnLaws.{valid-turned}
use Rattle.mx_model.proofs.ValidFlat.{length-map_in}
use Rattle.mx_coherence.specs.Spans.{AgreesIn}
use Rattle.mx_coherence.specs.Coherence.{AreWhole, HasDropped, HasEmptyCaches, IsCoherent, IsOfMap, KeepsNoStaleSpan, flat_coherent}
use Rattle.mx_words.proofs.SpanLaws.{each_none, each_weaker}
use Rattle.mx_words.proofs.ChangeLaws.{outside, beside-from}
use Rattle.mx_coherence.proofs.FollowLaws.{Follows, IsBeside}
use Rattle.mx_coherence.proofs.LookLaws.{WalksAgree}
use Rattle.mx_coherence.proofs.RangeLaws.{given_all}
use Rattle.mx_coherence.proofs.TurnLaws.{turned-outcome}

-- empty caches
dropped-empty : (c : Core) (h : ℕ) (k : Cache) (s : Status) → IsEmpty k → HasDropped c h k s
dropped-empty c h k Running p = tt
dropped-empty c h k (Waiting call heard) p = λ hit. each_none _ _ k p
dropped-empty c h k (Halted code) p = tt

pub coherent-empty : (r : Reads) (c : Core) → HasEmptyCaches c → IsCoherent r c
coherent-empty r c empty = record {
  current = λ h live. each_none (AgreesIn r) (AgreesIn r (hart_at c h).domain) (cache_at c h) (empty h);
  dropped = λ h g live apart. dropped-empty c h (cache_at c h) (hart_at c g).status (empty h);
}

-- a turn's permissions follow its change
follows-maps : (size : ℕ) (maps : List (List Perm)) (o : Option Change) (d w : ℕ) → IsBeside o w →
    perm_at (map_in size (maps_after maps o) d) w ≡ perm_at (map_in size maps d) w
follows-maps size maps None d w p = refl
follows-maps size maps (Some c) d w p = beside-from c.first c.count c.given 1 (d - 1) maps (map [] size) w (outside c.first c.count w p)

follows-turn : (f : Flat) (h : ℕ) → Follows (flat_reads f) (flat_reads (flat_turn f h)) (flat_made f h).change
follows-turn f h = record {
  at = λ d w p.
      let m = flat_made f h in
      let e : m.core.size ≡ f.core.size = (keeps-turned (flat_reads f) f.core h).size in
      ap (λ (n : ℕ). perm_at (map_in n (maps_after f.maps m.change) d) w) e ∙ follows-maps f.core.size f.maps m.change d w p;
}

-- walks over whole maps
walks-flat : (f : Flat) → AreWhole f → WalksAgree (flat_reads f) f.core.size
walks-flat f whole = record {
  at = λ d w lt. record {
    at = λ i covered.
        let m = map_in f.core.size f.maps d in
        let s = span f.core.kind m w in
        let round = span_round f.core.kind m w (subst (λ (n : ℕ). w < n) (sym (whole d)) lt) in
        let p = covers_from s.first s.count i covered in
        round.alike i p.0 p.1;
  };
}

pub coherent-turn : (f : Flat) (h : ℕ) → IsValid f.core → AreWhole f → flat_coherent f → flat_coherent (flat_turn f h)
coherent-turn f h v whole k =
    turned-outcome (flat_reads f) f.core h k (walks-flat f whole) v (flat_reads (flat_turn f h)) (follows-turn f h)

pub whole-flat : (f : Flat) → IsFlat f → AreWhole f
whole-flat f v d = length-map_in f d v

-- the maps of a state are whole
whole-state : (s : State) → AreWhole (flat s)
whole-state s d = by (d - 1) s.grants
  where
    by : (k : ℕ) (gs : List (List Grant)) → length (get_or (list_map (λ g. map g s.core.size) gs) k (map [] s.core.size)) ≡ s.core.size
    by k [] = length-map_of [] s.core.size
    by zero (g ∷ gs) = length-map_of g s.core.size
    by (suc k) (g ∷ gs) = by k gs

coherent-step : (s : State) (h : ℕ) → IsValid s.core → flat_coherent (flat s) → flat_coherent (flat (turn s h))
coherent-step s h v k = subst (λ (f : Flat). flat_coherent f) (sym (flat-turn s h)) (coherent-turn (flat s) h v (whole-state s) k)

-- a run from a valid coherent state
coherent-from : (p : Schedule) (n : ℕ) (s : State) → IsValid s.core → flat_coherent (flat s) → flat_coherent (flat (run p n s))
coherent-from p zero s v k = k
coherent-from p (suc n) s v k =
    let h = hart_of p s.core in
    elim (is_stopped p s) as (λ b. flat_coherent (flat (elim b [ true ↦ s | false ↦ run p n (turn s h) ]))) [
      | true ↦ k
      | false ↦ coherent-from p n (turn s h) (valid-turned (reads s) s.core h v) (coherent-step s h v k)
    ]

pub coherent-run : (p : Schedule) (n : ℕ) (s : State) → IsValid s.core → HasEmptyCaches s.core → flat_coherent (flat (run p n s))
coherent-run p n s v empty = coherent-from p n s v (coherent-empty (flat_reads (flat s)) s.core empty)

-- over maps: the range of a heard call is one of those heard
clear-range : (f : Flat) (h : ℕ) (s : Status) (range : ℕ × ℕ) → HasDropped f.core h (cache_at f.core h) s
    → flight_range f.core (heard_range h) s ≡ Some range →
    IsClear range (cache_at f.core h)
clear-range f h Running range p e = absurd (let q : ⊥ = cc in q)
clear-range f h (Waiting call heard) range p e = by (is_in heard h) refl e
  where
    by : (b : Bool) → is_in heard h ≡ b → cond {A = Option (ℕ × ℕ)} b (Some (call_range f.core call)) None ≡ Some range
        → IsClear range (cache_at f.core h)
    by true hit q = let same : call_range f.core call ≡ range = cc in subst (λ (x : ℕ × ℕ). IsClear x (cache_at f.core h)) same (p hit)
    by false miss q = absurd (let z : ⊥ = cc in z)
clear-range f h (Halted code) range p e = absurd (let q : ⊥ = cc in q)

clear-heard : (f : Flat) (h : ℕ) → flat_coherent f → is_halted (hart_at f.core h).status ≡ false →
    AllByRecursion (λ (range : ℕ × ℕ). IsClear range (cache_at f.core h)) (heard_ranges f.core h)
clear-heard f h k live =
    given_all (λ (range : ℕ × ℕ). IsClear range (cache_at f.core h))
    (λ (p : ℕ × Hart). cond (p.0 == h) None (flight_range f.core (heard_range h) p.1.status)) f.core.harts 0
    (λ g range lt e. by g range (g == h) refl
    (subst (λ (n : ℕ). cond (n == h) None (flight_range f.core (heard_range h) (hart_at f.core g).status) ≡ Some range) (zero-add g) e))
  where
    by : (g : ℕ) (range : ℕ × ℕ) (b : Bool) → (g == h) ≡ b →
        cond b None (flight_range f.core (heard_range h) (hart_at f.core g).status) ≡ Some range → IsClear range (cache_at f.core h)
    by g range true s e = absurd (let q : ⊥ = cc in q)
    by g range false s e = clear-range f h (hart_at f.core g).status range (k.dropped h g live (eqb-false g h s)) e

pub stale-none : (f : Flat) (h : ℕ) → flat_coherent f → is_halted (hart_at f.core h).status ≡ false → KeepsNoStaleSpan f h
stale-none f h k live =
    let maps = each_weaker {F = λ d s. IsOfMap (map_in f.core.size f.maps d) s} {Q =
    IsOfMap (map_in f.core.size f.maps (hart_at f.core h).domain)}
    (λ d s a. a.at) (λ s a. a.at) (cache_at f.core h) (k.current h live) in
    record { places = maps.places; list = maps.entries; heard = clear-heard f h k live }
