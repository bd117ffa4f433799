-- The parts of a machine that starts or resumes fit one another.
use Rattle.std.proofs.Common.{◌≡◌, ◌≢◌, ℕ, zero, suc, ◌<◌, ◌≤◌, ◌⊎◌, inl, inr, Bool, true, false, cond, List, length, get_or, Option, Some}
use Rattle.std.proofs.Common.{None, refl, sym, ap, subst, ◌∙◌, arith}
use Rattle.std.proofs.Common.{map as list_map}
use Rattle.std.specs.List.{list_any}
use Rattle.std.proofs.Math.Seq.{map-set_same}
use Rattle.std.proofs.lemmas.Bool.{cases_eq, cases_lt}
use Rattle.std.proofs.lemmas.List.{get_or-map, get_or-replicate, get_or_past, length-map, length-replicate}
use Rattle.std.proofs.lemmas.Option.{slice_get-get_or}
use Rattle.mx_check.specs.declared.flight.Flight.{Flight}
use Rattle.mx_check.specs.Harts.{Kept, at_hart, kept_at, new_hart}
use Rattle.mx_check.specs.Harts.{halts as counts_as_halted, nothing_kept}
use Rattle.mx_check.proofs.LookLaws.{kept_at-other, kept_at-same, length-at_hart}
use Rattle.mx_model.specs.declared.values.Call.{Call}
use Rattle.mx_supervisor.specs.Parts.{IsSound, Parts}
use Rattle.mx_supervisor.specs.Served.{range_of}
use Rattle.mx_supervisor.proofs.Answering.{with-harts}
use Rattle.mx_machine.specs.declared.hart.Hart.{Hart}
use Rattle.mx_machine.specs.declared.starts.HartStart.{HartStart}
use Rattle.mx_machine.specs.declared.starts.HartState.{HartState}
use Rattle.mx_machine.specs.declared.starts.StackArea.{StackArea}
use Rattle.mx_machine.specs.declared.views.HartStatus.{HartStatus}
use Rattle.mx_machine.specs.declared.views.HartStatus.TheVariants as V
use Rattle.mx_machine.specs.Actions.{halted_first}
use Rattle.mx_machine.specs.Harts.{hart_among, is_halted, is_waiting, no_held_hart, own_call}
use Rattle.mx_machine.specs.Held.{Held}
use Rattle.mx_machine.specs.Starts.{FliesIfWaiting, MayResume, MayStart, none_dead, progress_of, resumed_hart, started_from, started_hart}
use Rattle.mx_machine.specs.Ties.{Fits, IsFlying, IsTied}
use Rattle.mx_machine.proofs.StartLaws.{length-started, started-at}
use Rattle.mx_machine.proofs.WaitLaws.{none-waits}

tied-as : (range : Call → ℕ × ℕ) (h : ℕ) (x y : Hart) (k l : Kept) → x ≡ y → k ≡ l → IsTied range h y l → IsTied range h x k
tied-as range h x y k l ex ek t = subst (λ (z : Hart). IsTied range h z k) (sym ex) (subst (λ (z : Kept). IsTied range h y z) (sym ek) t)

tied-start : (range : Call → ℕ × ℕ) (stacks : List StackArea) (h : ℕ) (s : HartStart) → IsTied range h (started_hart stacks h s) new_hart
tied-start range stacks h s = record { halted = refl; flight = refl; domain = tt }

tied-nobody : (range : Call → ℕ × ℕ) (h : ℕ) → IsTied range h no_held_hart nothing_kept
tied-nobody range h = record { halted = refl; flight = refl; domain = tt }

-- what a machine that starts holds
abbrev pub held_started : Parts → List HartStart → List StackArea → Held
held_started p starts stacks =
    record { parts = p; harts = started_from stacks 0 starts; stacks = stacks; dead = none_dead; steps = 0; waiting = false }

pub no_start : HartStart
no_start = record { domain = 0; pc = 0 }

module _ (p : Parts) (starts : List HartStart) (stacks : List StackArea) (sound : IsSound p) (may : MayStart p starts stacks)
    (few : length starts ≤ 4) where
  pub hart-there : (h : ℕ) → h < length starts → hart_among (started_from stacks 0 starts) h
      ≡ started_hart stacks h (get_or starts h no_start)
  hart-there h lt = search (arith, started-at, slice_get-get_or, no_start)

  hart-past : (h : ℕ) → length starts ≤ h → hart_among (started_from stacks 0 starts) h ≡ no_held_hart
  hart-past h le = get_or_past (started_from stacks 0 starts) h no_held_hart (omega (arith, le, length-started stacks 0 starts))

  kept-there : (h : ℕ) → h < length starts → kept_at p.harts h ≡ new_hart
  kept-there h lt = ap (λ (ks : List Kept). kept_at ks h) may.new ∙ get_or-replicate (length starts) h new_hart nothing_kept lt

  kept-past : (h : ℕ) → length starts ≤ h → kept_at p.harts h ≡ nothing_kept
  kept-past h le = search (arith, get_or_past, length-replicate)

  ties-started : (h : ℕ) → (h < length starts) ⊎ (length starts ≤ h)
      → IsTied (range_of p) h (hart_among (started_from stacks 0 starts) h) (kept_at p.harts h)
  ties-started h x =
      grind (arith, tied-as, no_start, hart-there, kept-there, tied-start, hart-past, kept-past, tied-nobody)

  quiet-started : (h : ℕ) → (h < length starts) ⊎ (length starts ≤ h)
      → is_waiting (hart_among (started_from stacks 0 starts) h).progress ≡ false
  quiet-started h x = grind (arith, hart-there, hart-past)

  pub fits-started : Fits (held_started p starts stacks)
  fits-started = search (arith, length-started, length-replicate, ties-started, cases_lt, quiet-started)

-- which harts count as halted after the halted ones of the first n do
module _ (xs : List Hart) (kept : List Kept) where
  pub length-halted : (n : ℕ) → length (halted_first n xs kept) ≡ length kept
  length-halted zero = refl
  length-halted (suc n) = by (is_halted (hart_among xs n).progress) (length-halted n)
    where
      by : (b : Bool) → length (halted_first n xs kept) ≡ length kept →
          length (cond b (at_hart n counts_as_halted (halted_first n xs kept)) (halted_first n xs kept)) ≡ length kept
      by true e = length-at_hart (halted_first n xs kept) n counts_as_halted ∙ e
      by false e = e

  one-other : (n h : ℕ) (b : Bool) (ks : List Kept) → h ≢ n → kept_at (cond b (at_hart n counts_as_halted ks) ks) h ≡ kept_at ks h
  one-other n h true ks ne = kept_at-other ks n counts_as_halted h ne
  one-other n h false ks ne = refl

  one-same : (n : ℕ) (b : Bool) (ks : List Kept) → n < length ks →
      kept_at (cond b (at_hart n counts_as_halted ks) ks) n ≡ cond b (counts_as_halted (kept_at ks n)) (kept_at ks n)
  one-same n true ks lt = kept_at-same ks n counts_as_halted lt
  one-same n false ks lt = refl

  pub halted-past : (n h : ℕ) → n ≤ h → kept_at (halted_first n xs kept) h ≡ kept_at kept h
  halted-past zero h le = refl
  halted-past (suc n) h le =
      let other : h ≢ n = λ e. absurd (omega (arith, e, le)) in
      one-other n h (is_halted (hart_among xs n).progress) (halted_first n xs kept) other ∙ halted-past n h (omega (arith, le))

  pub halted-below : (n h : ℕ) → n ≤ length kept → h < n →
      kept_at (halted_first n xs kept) h ≡ cond (is_halted (hart_among xs h).progress) (counts_as_halted (kept_at kept h)) (kept_at kept h)
  halted-below zero h most lt = absurd (omega (arith, lt))
  halted-below (suc n) h most lt = by (halted-below n h (omega (arith, most))) (cases_eq h n)
    where
      by : (h < n → kept_at (halted_first n xs kept) h ≡ cond (is_halted (hart_among xs h).progress) (counts_as_halted (kept_at kept h))
          (kept_at kept h)) →
          (h ≡ n) ⊎ (h ≢ n) →
          kept_at (halted_first (suc n) xs kept) h ≡ cond (is_halted (hart_among xs h).progress) (counts_as_halted (kept_at kept h))
          (kept_at kept h)
      by rest (inl e) =
          let long : n < length (halted_first n xs kept) = omega (arith, most, length-halted n) in
          subst (λ (j : ℕ). kept_at (halted_first (suc n) xs kept) j
          ≡ cond (is_halted (hart_among xs j).progress) (counts_as_halted (kept_at kept j)) (kept_at kept j)) (sym e)
          (one-same n (is_halted (hart_among xs n).progress) (halted_first n xs kept) long
          ∙ ap (λ (k : Kept). cond (is_halted (hart_among xs n).progress) (counts_as_halted k) k) (halted-past n n (omega arith)))
      by rest (inr ne) =
          one-other n h (is_halted (hart_among xs n).progress) (halted_first n xs kept) ne ∙ rest (omega (arith, lt, ne))

  -- no caches and no call in flight change
  pub caches-halted : (n : ℕ) → list_map (λ (k : Kept). k.cache) (halted_first n xs kept) ≡ list_map (λ (k : Kept). k.cache) kept
  caches-halted zero = refl
  caches-halted (suc n) = by (is_halted (hart_among xs n).progress) (caches-halted n)
    where
      by : (b : Bool) → list_map (λ (k : Kept). k.cache) (halted_first n xs kept) ≡ list_map (λ (k : Kept). k.cache) kept →
          list_map (λ (k : Kept). k.cache) (cond b (at_hart n counts_as_halted (halted_first n xs kept)) (halted_first n xs kept))
          ≡ list_map (λ (k : Kept). k.cache) kept
      by true e =
          map-set_same (λ (k : Kept). k.cache) (halted_first n xs kept) n (counts_as_halted (kept_at (halted_first n xs kept) n))
          nothing_kept refl ∙ e
      by false e = e

  flight-one : (b : Bool) (k : Kept) → (cond b (counts_as_halted k) k).flight ≡ k.flight
  flight-one x k = grind arith

  pub flight-halted : (n h : ℕ) → n ≤ length kept → (kept_at (halted_first n xs kept) h).flight ≡ (kept_at kept h).flight
  flight-halted n h most = search (arith, cases_lt, halted-below, flight-one, halted-past)

-- one hart that resumes
module _ (p : Parts) (h : ℕ) (s : HartState) (k : Kept) (running : k.halted ≡ false) (nowhere : k.domain ≡ None) where
  flies : (o : Option Flight) → FliesIfWaiting p h s V.Waiting o → IsFlying (range_of p (own_call h (resumed_hart s))) o
  flies None t = absurd t
  flies (Some f) t = t.range

  tied-by : (v : HartStatus) → FliesIfWaiting p h s v k.flight →
      IsTied (range_of p) h (record (resumed_hart s) { progress = progress_of v }) (cond (is_halted (progress_of v)) (counts_as_halted k) k)
  tied-by x t = grind (arith, flies)

-- what a machine that resumes holds
abbrev pub held_resumed : Parts → List HartState → List StackArea → List Bool → ℕ → Held
held_resumed p states stacks dead steps =
    let harts = list_map resumed_hart states in
    record {
      parts = record p { harts = halted_first (length harts) harts p.harts };
      harts = harts;
      stacks = stacks;
      dead = dead;
      steps = steps;
      waiting = list_any (λ (x : Hart). is_waiting x.progress) harts;
    }

module _ (p : Parts) (states : List HartState) (stacks : List StackArea) (dead : List Bool) (steps : ℕ) (sound : IsSound p)
    (may : MayResume p states stacks dead steps) (few : length states ≤ 4) (places : length dead ≡ 64) where
  as-many : length (list_map resumed_hart states) ≡ length p.harts
  as-many = length-map states resumed_hart ∙ sym may.same_harts

  ties-resumed : (h : ℕ) → (h < length states) ⊎ (length states ≤ h) →
      IsTied (range_of p) h (hart_among (list_map resumed_hart states) h)
      (kept_at (halted_first (length (list_map resumed_hart states)) (list_map resumed_hart states) p.harts) h)
  ties-resumed h x =
      grind (arith, get_or-map, length-map, halted-below, as-many, tied-as, tied-by, get_or_past, halted-past, tied-nobody)

  pub fits-resumed : Fits (held_resumed p states stacks dead steps)
  fits-resumed =
      search (arith, with-harts, held_resumed, as-many, length-halted, p.harts, length-map, ties-resumed, cases_lt, none-waits)
