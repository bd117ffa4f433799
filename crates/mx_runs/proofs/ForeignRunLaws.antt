-- Runs keep the words that the domains of their turns may never write.
use Rattle.std.proofs.Common.{◌≡◌, ℕ, zero, suc, ◌+◌, ◌-◌, ◌<◌, ◌≤◌, Bool, true, false, ◌==◌, nat_lt, List, [], ◌∷◌, length, get_or, refl}
use Rattle.std.proofs.Common.{sym, ◌∙◌, ap, subst, arith, if◌then◌else◌, Option, Some, None, ⊎_elim}
use Rattle.std.proofs.Common.{map as list_map}
use Rattle.std.specs.List.{AllByRecursion}
use Rattle.std.proofs.lemmas.Bool.{eq-eqb, ltb-false, ltb-true}
use Rattle.std.proofs.lemmas.List.{length-map}
use Rattle.std.proofs.Math.ListN.{get_or-eq_default}
use Rattle.mx_words.specs.declared.perm.Perm.{Perm}
use Rattle.mx_words.specs.declared.perm.Perm.TheVariants as P
use Rattle.mx_words.specs.Changes.{changed_map, grant_of, granted_from}
use Rattle.mx_words.specs.Newest.{Grant, map}
use Rattle.mx_words.proofs.ChangeLaws.{changed_from-at}
use Rattle.mx_words.proofs.OverlayLaws.{laid_in, length-map_of}
use Rattle.mx_model.specs.Agreement.{standing}
use Rattle.mx_model.specs.Reads.{Reads, Change, flat_reads, reads}
use Rattle.mx_model.specs.Run.{Schedule, flat_turn, grants_after, hart_of, is_stopped, maps_after, run, turn}
use Rattle.mx_model.specs.Serve.{own_alone}
use Rattle.mx_model.specs.State.{Core, Flat, Hart, State, flat, no_hart}
use Rattle.mx_model.specs.Turn.{Made}
use Rattle.mx_model.specs.Valid.{IsModule}
use Rattle.mx_model.proofs.FlatLaws.{flat-turn, made-flat, reads-flat}
use Rattle.mx_model.proofs.KeepLaws.{keeps-turned, size-turned}
use Rattle.mx_model.proofs.ListLaws.{all-at}
use Rattle.mx_model.proofs.RunSteps.{run-going, run-stopped}
use Rattle.mx_model.proofs.TurnLaws.{valid-turned}
use Rattle.mx_laws.specs.After.{domain_at}
use Rattle.mx_laws.specs.Foreign.{IsForeign, IsKept}
use Rattle.mx_laws.proofs.ForeignLaws.{kept-ram, ram-halted}
use Rattle.mx_runs.specs.ForeignRuns.{AreAllForeign, HasLists, HasMaps, MakesTurn, MayNotWrite, NamesNobody, NeverWrites}
use Rattle.mx_runs.proofs.RunMoments.{no-more, one-more}
use Rattle.mx_runs.proofs.ForeignTurns.{IsGiven, turned-word}

-- a word that is given may be written afterwards
own-alone : (d : ℕ) → Some (if d == d then P.ReadWrite else P.None) ≡ Some P.ReadWrite
own-alone d = ap (λ (b : Bool). Some (if b then P.ReadWrite else P.None)) (eq-eqb d d refl)

given-perm : (f : Flat) (size d w : ℕ) (o : Option Change) → HasMaps f → size ≡ f.core.size →
    IsModule (length f.core.modules) d → IsGiven f.core d w o →
    get_or (get_or (maps_after f.maps o) (d - 1) (map [] size)) w P.None ≡ P.ReadWrite
given-perm f size d w o p n i g =
    let none = map [] size in
    let old = get_or f.maps (d - 1) none in
    let low = i.first in
    let high = i.last in
    let maps = p.maps in
    let long : length old ≡ f.core.size =
    all-at (λ (m : List Perm). length m ≡ f.core.size) f.maps none p.whole (length-map_of [] size ∙ n) (d - 1) in
    let below = g.high in
    let inside = g.inside in
    ap (λ (x : Option Change). get_or (get_or (maps_after f.maps x) (d - 1) none) w P.None) g.change
    ∙ ap (λ (m : List Perm). get_or m w P.None)
    (changed_from-at g.first g.count (own_alone d) 1 f.maps (d - 1) d none (omega (arith, low, high, maps))
    (omega (arith, low)))
    ∙ ap (λ (x : Option Perm). get_or (changed_map g.first g.count x old) w P.None) (own-alone d)
    ∙ laid_in (grant_of g.first g.count P.ReadWrite) old w P.None (omega (arith, below, inside, long)) g.low g.high

-- a turn of a flat state, and of a state
pub maps-word : (f : Flat) (h w : ℕ) → HasMaps f → IsForeign (flat_reads f) f.core h w →
    MayNotWrite (flat_reads (flat_turn f h)) (domain_at f.core h) w → IsKept f.core (flat_turn f h).core w
maps-word f h w p a b =
    ⊎_elim (λ k. k) (search (arith, given-perm, f.core, size-turned)) (turned-word (flat_reads f) f.core h w p.valid a)

maps-whole : (size : ℕ) (grants : List (List Grant)) →
    AllByRecursion (λ (m : List Perm). length m ≡ size) (list_map (λ gs. map gs size) grants)
maps-whole size [] = tt
maps-whole size (gs ∷ rest) = (length-map_of gs size, maps-whole size rest)

maps-of : (s : State) → HasLists s → HasMaps (flat s)
maps-of s p = search (arith, length-map, maps-whole)

pub state-word : (s : State) (h w : ℕ) → HasLists s → IsForeign (reads s) s.core h w →
    MayNotWrite (reads (turn s h)) (domain_at s.core h) w → IsKept s.core (turn s h).core w
state-word s h w p a b =
    let d = domain_at s.core h in
    let after : reads (turn s h) ≡ flat_reads (flat_turn (flat s) h) = reads-flat (turn s h)
    ∙ ap flat_reads (flat-turn s h) in
    subst (λ (m : Made). IsKept s.core m.core w) (sym (made-flat s h))
    (maps-word (flat s) h w (maps-of s p)
    (subst (λ (r : Reads). MayNotWrite r d w) (reads-flat s) a) (subst (λ (r : Reads). MayNotWrite r d w) after b))

-- runs keep as many lists of grants as modules
length-granted : (first count : ℕ) (given : ℕ → Option Perm) (d : ℕ) (grants : List (List Grant)) →
    length (granted_from first count given d grants) ≡ length grants
length-granted first count given d [] = refl
length-granted first count given d (g ∷ gs) = ap suc (length-granted first count given (d + 1) gs)

length-after : (grants : List (List Grant)) (o : Option Change) → length (grants_after grants o) ≡ length grants
length-after grants None = refl
length-after grants (Some c) = length-granted c.first c.count c.given 1 grants

lists-turn : (s : State) (h : ℕ) → HasLists s → HasLists (turn s h)
lists-turn s h p = search (arith, valid-turned, s.core, length-after, s.grants, keeps-turned)

pub lists-run : (schedule : Schedule) (n : ℕ) (s : State) → HasLists s → HasLists (run schedule n s)
lists-run schedule zero s p = p
lists-run schedule (suc n) s p =
    elim (is_stopped schedule s) as (λ b. is_stopped schedule s ≡ b → HasLists (run schedule (suc n) s)) [
      | true ↦ λ e. subst HasLists (sym (run-stopped schedule (suc n) s e)) p
      | false ↦ λ e. subst HasLists (sym (run-going schedule n s e))
          (lists-run schedule n (turn s (hart_of schedule s.core)) (lists-turn s (hart_of schedule s.core) p))
    ] refl

pub turns-word : (schedule : Schedule) (s : State) (n d w : ℕ) → HasLists s → NeverWrites schedule s n d w →
    (k : ℕ) → k < n →
    MakesTurn schedule (run schedule k s) d → IsKept (run schedule k s).core (run schedule (k + 1) s).core w
turns-word schedule s n d w p never k l m = search (arith, one-more, state-word, lists-run)

-- a turn that names a hart that isn't there
nobody-turn : (s : State) (h w : ℕ) → length s.core.harts ≤ h → IsKept s.core (turn s h).core w
nobody-turn s h w l =
    let none = get_or-eq_default s.core.harts no_hart l in
    kept-ram s.core (turn s h).core w (ram-halted (reads s) s.core h (ap (λ (x : Hart). standing x.status) none))

pub nobody-word : (schedule : Schedule) (s : State) (k w : ℕ) → NamesNobody schedule (run schedule k s) →
    IsKept (run schedule k s).core (run schedule (k + 1) s).core w
nobody-word schedule s k w l =
    let u = run schedule k s in
    elim (is_stopped schedule u) as (λ b. is_stopped schedule u ≡ b →
    IsKept u.core (run schedule (k + 1) s).core w) [
      | true ↦ λ e. subst (λ (t : State). IsKept u.core t.core w) (sym (no-more schedule k s e)) (λ i j. refl)
      | false ↦ λ e. subst (λ (t : State). IsKept u.core t.core w) (sym (one-more schedule k s e))
          (nobody-turn u (hart_of schedule u.core) w l)
    ] refl

kept-more : (c e f : Core) (w : ℕ) → IsKept c e w → IsKept e f w → IsKept c f w
kept-more c e f w p q k l = q k l ∙ p k l

run-step : (schedule : Schedule) (s : State) (n w : ℕ) → HasLists s → AreAllForeign schedule s n w → (k : ℕ) → k < n →
    (b : Bool) → is_stopped schedule (run schedule k s) ≡ b →
    IsKept (run schedule k s).core (run schedule (k + 1) s).core w
run-step schedule s n w p all k l true e = search (arith, no-more)
run-step schedule s n w p all k l false e =
    let u = run schedule k s in
    let h = hart_of schedule u.core in
    let d = domain_at u.core h in
    let harts = length u.core.harts in
    elim (nat_lt h harts) as (λ b. nat_lt h harts ≡ b → IsKept u.core (run schedule (k + 1) s).core w) [
      | true ↦ λ t.
          let m : MakesTurn schedule u d = record { going = e; there = ltb-true h harts t; domain = refl } in
          turns-word schedule s n d w p (all d k l m) k l m
      | false ↦ λ t. nobody-word schedule s k w (ltb-false h harts t)
    ] refl

run-to : (schedule : Schedule) (s : State) (n w : ℕ) → HasLists s → AreAllForeign schedule s n w →
    (m : ℕ) → m ≤ n → IsKept s.core (run schedule m s).core w
run-to schedule s n w p all zero l = λ i j. refl
run-to schedule s n w p all (suc m) l =
    let next : m + 1 ≡ suc m = omega arith in
    subst (λ (k : ℕ). IsKept s.core (run schedule k s).core w) next
    (kept-more s.core (run schedule m s).core (run schedule (m + 1) s).core w
    (run-to schedule s n w p all m (omega (arith, l)))
    (run-step schedule s n w p all m (omega (arith, l)) (is_stopped schedule (run schedule m s)) refl))

pub run-word : (schedule : Schedule) (s : State) (n w : ℕ) → HasLists s → AreAllForeign schedule s n w →
    IsKept s.core (run schedule n s).core w
run-word schedule s n w p all = run-to schedule s n w p all n (omega arith)
