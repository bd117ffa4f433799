-- Harts that are added one after another, with the calls on which they wait.
use Rattle.std.proofs.Common.{◌≡◌, ℕ, suc, ◌+◌, ◌<◌, List, [], ◌∷◌, ◌++◌, length, None, refl, sym, ap, ◌∙◌, subst, arith}
use Rattle.std.specs.Prelude.{map as list_map}
use Rattle.std.proofs.lemmas.List.{map-append}
use Rattle.mx_check.specs.declared.flight.Flight.{Flight}
use Rattle.mx_check.specs.Flights.{flight_of}
use Rattle.mx_heap.specs.HeapState.{HeapState}
use Rattle.mx_machine.specs.declared.starts.HartState.{HartState}
use Rattle.mx_snapshot.specs.Resuming.{flights_from, own_flights, state_in}
use Rattle.mx_snapshot.specs.Stored.{StoredHart}
use Rattle.mx_snapshot.proofs.ValidGoes.{flights-few, flights-later, flights-more}
use Rattle.mx_resume.specs.declared.harts.ResumingHarts.{ResumingHarts}
use Rattle.mx_resume.specs.Parts.{harts_in_code}

pub calls_few : (words : ℕ) (heaps : List HeapState) (before : List StoredHart) (number : ℕ) (harts : ResumingHarts)
    → length before ≡ number → number < 4 → harts ≡ harts_in_code words heaps before → length harts.flights < 4
calls_few words heaps before number harts long lt e =
    let few = flights-few words heaps 0 before in
    subst (λ (x : ResumingHarts). length x.flights < 4) (sym e) (omega (arith, few, long, lt))

pub call_new : (words : ℕ) (heaps : List HeapState) (before : List StoredHart) (number : ℕ) (harts : ResumingHarts) → length before ≡ number
    → harts ≡ harts_in_code words heaps before → flight_of harts.flights number ≡ None
call_new words heaps before number harts long e =
    ap (λ (x : ResumingHarts). flight_of x.flights number) e ∙ flights-later words heaps 0 before number (omega (arith, long))

pub states_few : (words : ℕ) (heaps : List HeapState) (before : List StoredHart) (number : ℕ) (harts : ResumingHarts)
    → length before ≡ number → number < 4 → harts ≡ harts_in_code words heaps before → length harts.states < 4
states_few words heaps before number harts long lt e =
    let same = map_long before in
    subst (λ (x : ResumingHarts). length x.states < 4) (sym e) (omega (arith, same, long, lt)) where
      map_long : (xs : List StoredHart) → length (list_map state_in xs) ≡ length xs
      map_long [] = refl
      map_long (x ∷ xs) = ap suc (map_long xs)

pub hart_added : (words : ℕ) (heaps : List HeapState) (before : List StoredHart) (number : ℕ) (x : StoredHart) (harts : ResumingHarts)
    (states : List HartState) (flights : List Flight) → length before ≡ number → harts ≡ harts_in_code words heaps before →
    states ≡ harts.states ++ state_in x ∷ [] → flights ≡ harts.flights ++ own_flights words heaps number x x.status
    → (record { states = states; flights = flights }) ≡ harts_in_code words heaps (before ++ x ∷ [])
hart_added words heaps before number x harts states flights long e a b =
    let here : number ≡ 0 + length before = omega (arith, long) in
    let s : states ≡ list_map state_in (before ++ x ∷ []) = a ∙ ap (λ (y : ResumingHarts). y.states ++ state_in x ∷ []) e
    ∙ sym (map-append state_in before (x ∷ [])) in
    let f : flights ≡ flights_from words heaps 0 (before ++ x ∷ []) = b
    ∙ ap (λ (y : ResumingHarts). y.flights ++ own_flights words heaps number x x.status) e
    ∙ ap (λ (k : ℕ). flights_from words heaps 0 before ++ own_flights words heaps k x x.status) here
    ∙ sym (flights-more words heaps 0 before x) in
    ap (λ (ss : List HartState). (let y : ResumingHarts = record { states = ss; flights = flights } in y)) s
    ∙ ap (λ (fs : List Flight). (let y : ResumingHarts = record { states = list_map state_in (before ++ x ∷ []); flights = fs } in y)) f
