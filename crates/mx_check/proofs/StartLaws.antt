-- Coherence at the start: empty caches keep both facts, whoever has heard what.
use Rattle.std.proofs.Common.{◌≡◌, ℕ, ◌<◌, ◌≤◌, ◌⊎◌, inl, inr, Bool, true, false, cond, List, [], ◌∷◌, length, Option, Some, None, refl}
use Rattle.std.proofs.Common.{sym, ap, subst, arith}
use Rattle.std.specs.Prelude.{All, IfSome}
use Rattle.std.proofs.lemmas.Bool.{cases_lt, eqb-true}
use Rattle.std.proofs.lemmas.List.{get_or_past, get_or-replicate, length-replicate}
use Rattle.std.proofs.lemmas.List.Elements.{All-head, All-tail}
use Rattle.mx_words.specs.declared.perm.Perm.{Perm}
use Rattle.mx_words.specs.Caches.{no_cache, meets}
use Rattle.mx_words.proofs.CountingLaws.{length-list_below, list_below-at}
use Rattle.mx_table.specs.Tables.{map_of}
use Rattle.mx_check.specs.declared.flight.Flight.{Flight}
use Rattle.mx_check.specs.Flights.{is_of, flight_of, IsSet, IsHeardByOthers, AreHearers}
use Rattle.mx_words.specs.Hearing.{is_in}
use Rattle.mx_words.specs.KeptSpans.{EachSpan, IsClear}
use Rattle.mx_check.specs.Harts.{Kept, new_hart, nothing_kept, kept_at}
use Rattle.mx_check.specs.Conditions.{MayLook, IsResumable}
use Rattle.mx_check.specs.Calls.{new_harts, waiting_hart, waiting_harts}
use Rattle.mx_check.specs.Coherence.{AgreesWithMap, AgreesIn, HasDropped, Keeps}
use Rattle.mx_words.proofs.SpanLaws.{each_none, no-spans}

-- harts whose caches are empty
module _ (maps : List (List Perm)) (harts : List Kept) (empty : (i : ℕ) → (kept_at harts i).cache ≡ no_cache)
    (hearers : (i : ℕ) → IfSome (kept_at harts i).flight (AreHearers (length harts) i)) (few : length harts ≤ 4) where
  dropped_from : (h : ℕ) (o : Option Flight) → IfSome o (HasDropped h (kept_at harts h).cache)
  dropped_from h None = tt
  dropped_from h (Some f) =
      λ hit. subst (λ c. IsClear (f.first, f.count) c) (sym (empty h))
      (each_none (λ d s. meets s f.first f.count ≡ false) (λ s. meets s f.first f.count ≡ false) no_cache no-spans)

  pub empty-keeps : Keeps maps harts
  empty-keeps = record {
    agree = λ h running.
        let k = kept_at harts h in
        subst (λ c. EachSpan (λ d s. AgreesWithMap (map_of maps d) k.flight s) (AgreesIn maps k.flight k.domain) c) (sym (empty h))
        (each_none (λ d s. AgreesWithMap (map_of maps d) k.flight s) (AgreesIn maps k.flight k.domain) no_cache no-spans);
    dropped = λ h i running apart. dropped_from h (kept_at harts i).flight;
    hearers = hearers;
    few = few;
  }

module _ (maps : List (List Perm)) (n : ℕ) (few : n ≤ 4) where
  new_at : (i : ℕ) → (i < n) ⊎ (n ≤ i) → ((kept_at (new_harts n) i).cache ≡ no_cache) × ((kept_at (new_harts n) i).flight ≡ None)
  new_at i (inl lt) = let e = get_or-replicate n i new_hart nothing_kept lt in (ap (λ (k : Kept). k.cache) e, ap (λ (k : Kept). k.flight) e)
  new_at i (inr le) =
      let e = get_or_past (new_harts n) i nothing_kept (omega (arith, length-replicate n new_hart)) in
      (ap (λ (k : Kept). k.cache) e, ap (λ (k : Kept). k.flight) e)

  pub new-keeps : Keeps maps (new_harts n)
  new-keeps =
      empty-keeps maps (new_harts n) (λ i. (new_at i (cases_lt i n)).0)
      (λ i. subst (λ (o : Option Flight). IfSome o (AreHearers (length (new_harts n)) i)) (sym (new_at i (cases_lt i n)).1) tt)
      (omega (arith, length-replicate n new_hart))

-- who has heard the call of a hart in a list of calls
flight_of-hearers : (n words h : ℕ) (flights : List Flight) → All IsSet flights → All (IsResumable n words) flights
    → IfSome (flight_of flights h) (AreHearers n h)
flight_of-hearers n words h [] sets all = tt
flight_of-hearers n words h (f ∷ fs) sets all =
    by (flight_of-hearers n words h fs (All-tail IsSet f fs sets) (All-tail (IsResumable n words) f fs all)) (is_of h f) refl
  where
    by : IfSome (flight_of fs h) (AreHearers n h) → (b : Bool) → is_of h f ≡ b → IfSome (cond b (Some f) (flight_of fs h)) (AreHearers n h)
    by rest true e = record {
      places = All-head IsSet f fs sets;
      others = subst (λ j. IsHeardByOthers n j f) (eqb-true f.hart h e) (All-head (IsResumable n words) f fs all).heard;
    }
    by rest false e = rest

module _ (maps : List (List Perm)) (flights : List Flight) (n words : ℕ) (few : n ≤ 4) (sets : All IsSet flights)
    (all : All (IsResumable n words) flights) where
  as_many : length (waiting_harts flights n) ≡ n
  as_many = length-list_below n (waiting_hart flights)

  waiting_at : (i : ℕ) → (i < n) ⊎ (n ≤ i) → ((kept_at (waiting_harts flights n) i).cache ≡ no_cache)
      × IfSome (kept_at (waiting_harts flights n) i).flight (AreHearers n i)
  waiting_at i (inl lt) =
      let e = list_below-at n i (waiting_hart flights) nothing_kept lt in (
        ap (λ (k : Kept). k.cache) e,
        subst (λ (k : Kept). IfSome k.flight (AreHearers n i)) (sym e)
            (flight_of-hearers n words i flights sets all),
      )
  waiting_at i (inr le) =
      let e = get_or_past (waiting_harts flights n) i nothing_kept (omega (arith, as_many)) in
      (ap (λ (k : Kept). k.cache) e, subst (λ (k : Kept). IfSome k.flight (AreHearers n i)) (sym e) tt)

  pub waiting-keeps : Keeps maps (waiting_harts flights n)
  waiting-keeps =
      empty-keeps maps (waiting_harts flights n) (λ i. (waiting_at i (cases_lt i n)).0)
      (λ i. subst (λ k. IfSome (kept_at (waiting_harts flights n) i).flight (AreHearers k i)) (sym as_many) (waiting_at i (cases_lt i n)).1)
      (omega (arith, as_many))

-- a hart that has done nothing yet may check in any domain
new_flight : (n i : ℕ) → (i < n) ⊎ (n ≤ i) → (kept_at (new_harts n) i).flight ≡ None
new_flight n i (inl lt) = ap (λ (k : Kept). k.flight) (get_or-replicate n i new_hart nothing_kept lt)
new_flight n i (inr le) = ap (λ (k : Kept). k.flight) (get_or_past (new_harts n) i nothing_kept
    (omega (arith, length-replicate n new_hart)))

pub new_may : (n h domain : ℕ) → h < n → MayLook h domain (new_harts n)
new_may n h domain lt =
    let now = get_or-replicate n h new_hart nothing_kept lt in
    record {
      hart = omega (arith, length-replicate n new_hart);
      running = ap (λ (k : Kept). k.halted) now;
      free = ap (λ (k : Kept). k.flight) now;
      heard = λ i ne. subst (λ (o : Option Flight). IfSome o (λ f. is_in f.heard h ≡ true)) (sym (new_flight n i (cases_lt i n))) tt;
      same_domain = subst (λ (k : Kept). IfSome k.domain (λ d. d ≡ domain)) (sym now) tt;
    }
