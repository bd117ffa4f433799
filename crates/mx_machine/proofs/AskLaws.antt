-- Calls that are asked for: announced, waited on, and served.
use Rattle.std.proofs.Common.{◌≡◌, ◌≢◌, ℕ, ◌<◌, Bool, true, false, not, ◌||◌, List, refl, sym, ap, subst, ◌∙◌, Option, Some, None, arith}
use Rattle.std.specs.Prelude.{IfSome}
use Rattle.std.proofs.lemmas.List.{set-get_or}
use Rattle.mx_words.specs.Announced.{is_announced}
use Rattle.mx_words.specs.Hearing.{nobody}
use Rattle.mx_check.specs.declared.flight.Flight.{Flight}
use Rattle.mx_check.specs.Calls.{is_ready}
use Rattle.mx_check.specs.Harts.{Kept, kept_at, announced}
use Rattle.mx_model.specs.declared.values.TurnKind.TheVariants as T
use Rattle.mx_model.specs.Events.{Events, no_events}
use Rattle.mx_model.specs.State.{Waiting, with_hart}
use Rattle.mx_model.specs.State.{no_hart as nobody_seen}
use Rattle.mx_model.specs.State.{Hart as Seen}
use Rattle.mx_model.specs.Turn.{Asks, asked, call_of, is_served_now, served}
use Rattle.mx_supervisor.specs.Served.{range_of}
use Rattle.mx_supervisor.proofs.Answering.{with-harts}
use Rattle.mx_machine.specs.declared.hart.Hart.{Hart}
use Rattle.mx_machine.specs.declared.hart.Progress.{Progress}
use Rattle.mx_machine.specs.declared.hart.Progress.TheVariants as G
use Rattle.mx_machine.specs.Actions.{with_kept}
use Rattle.mx_machine.specs.Harts.{no_held_hart, hart_among, own_call, seen, seen_with, status_by}
use Rattle.mx_machine.specs.Held.{Held, rest_of}
use Rattle.mx_machine.specs.Made.{IsMade, core_in, made_by, hart_in, reads_of}
use Rattle.mx_machine.specs.Serving.{IsServing}
use Rattle.mx_machine.specs.Steps.{waits}
use Rattle.mx_machine.specs.Ties.{Fits, IsFlying, IsTied, MayAct, MayRun}
use Rattle.mx_machine.proofs.CoreLaws.{core-kept, core-step}
use Rattle.mx_machine.proofs.MadeLaws.{kept-there, may-look, running-kept}
use Rattle.mx_machine.proofs.FitLaws.{IsChange, changed, count-step, fits-change, others-step, own-step}
use Rattle.mx_machine.proofs.HearLaws.{bars-alike, ready-now}
use Rattle.mx_machine.proofs.InstructLaws.{seen-running}

-- the call of a running hart
pub call-is : (m : Held) (h : ℕ) → MayRun m h → call_of h (hart_in m h) ≡ own_call h (hart_among m.harts h)
call-is m h r = ap (call_of h) (seen-running m h r)

-- a call that isn't announced is served
pub serving-plain : (m : Held) (h : ℕ) → MayRun m h → is_announced (own_call h (hart_among m.harts h)).number ≡ false
    → IsServing m h (own_call h (hart_among m.harts h))
serving-plain m h r e = search (arith, may-look, bars-alike, r.act.fits.count, r.act.fits.ties, running-kept)

-- a waiting hart's call that is ready
flying-range : (range : ℕ × ℕ) (o : Option Flight) → IsFlying range o → IfSome o (λ f. (f.first ≡ range.0) × (f.count ≡ range.1))
flying-range range None e = absurd e
flying-range range (Some f) e = (e.first, e.count)

pub serving-waiting : (m : Held) (h : ℕ) → MayAct m h → (hart_among m.harts h).progress ≡ G.Waiting
    → is_announced (own_call h (hart_among m.harts h)).number ≡ true →
    is_ready h m.parts.harts ≡ true → IsServing m h (own_call h (hart_among m.harts h))
serving-waiting m h a w n e =
    search (arith, m.harts, m.parts.harts, m.parts, a.fits.ties, kept-there, flying-range, bars-alike, a.fits.count)

-- a call that was just announced
module _ (m : Held) (h : ℕ) (r : MayRun m h) where
  abbrev pub range_now : ℕ × ℕ
  range_now = range_of m.parts (own_call h (hart_among m.harts h))

  abbrev pub now_announced : Held
  now_announced = with_kept h (announced h (range_of m.parts (own_call h (hart_among m.harts h))).0
      (range_of m.parts (own_call h (hart_among m.harts h))).1) m

  own-announced : kept_at now_announced.parts.harts h ≡ announced h range_now.0 range_now.1 (kept_at m.parts.harts h)
  own-announced = own-step m.parts.harts h (announced h range_now.0 range_now.1) (kept-there m h r.act)

  others-announced : (i : ℕ) → i ≢ h → kept_at now_announced.parts.harts i ≡ kept_at m.parts.harts i
  others-announced i ne = others-step m.parts.harts h (announced h range_now.0 range_now.1) i ne

  tied-others : (i : ℕ) → i ≢ h → IsTied (range_of m.parts) i (hart_among m.harts i) (kept_at now_announced.parts.harts i)
  tied-others i ne = subst (λ (k : Kept). IsTied (range_of m.parts) i (hart_among m.harts i) k) (sym (others-announced i ne))
      (r.act.fits.ties i)

  pub serving-announced : is_announced (own_call h (hart_among m.harts h)).number ≡ true → is_ready h now_announced.parts.harts ≡ true →
      IsServing now_announced h (own_call h (hart_among m.harts h))
  serving-announced n e =
      let x = hart_among m.harts h in
      let count = count-step m.parts.harts h (announced h range_now.0 range_now.1) in
      record {
        sound = with-harts m.parts now_announced.parts.harts r.act.fits.sound;
        count = r.act.fits.count ∙ sym count;
        few = r.act.fits.few;
        stacks = r.act.fits.stacks;
        dead = r.act.fits.dead;
        there = r.act.there;
        own = refl;
        domain = r.act.domain;
        may = record {
          announced = λ q. record {
            hart = subst (λ k. h < k) (sym count) (kept-there m h r.act);
            ready = e;
            range = subst (λ (k : Kept). IfSome k.flight (λ f. (f.first ≡ range_now.0) × (f.count ≡ range_now.1))) (sym own-announced)
                (refl, refl);
          };
          other = λ q. absurd (let z : ⊥ = cc in z);
        };
        bars = bars-alike now_announced h (r.act.fits.count ∙ sym count) tied-others;
        running = ap (λ (k : Kept). k.halted) own-announced ∙ running-kept m h r;
        kept_domain = subst (λ (k : Kept). IfSome k.domain (λ d. d ≡ x.domain)) (sym own-announced) (r.act.fits.ties h).domain;
        others = tied-others;
        quiet = r.act.fits.quiet;
      }

  -- the state is the same
  pub core-announced : core_in now_announced ≡ core_in m
  core-announced =
      let x = hart_among m.harts h in
      let p = now_announced.parts in
      let k = kept_at p.harts h in
      ap (λ (hs : List Hart). core_in (record m { parts = p; harts = hs })) (sym (set-get_or m.harts h no_held_hart))
      ∙ core-step m h x p (λ i ne. ap (λ (k : Kept). k.flight) (others-announced i ne))
      ∙ ap (with_hart h (seen h x k)) (core-kept (rest_of m) m.parts h (announced h range_now.0 range_now.1) refl)
      ∙ ap (λ (g : Progress). with_hart h (seen_with (status_by (own_call h x) k.flight g) x) (core_in m)) r.runs
      ∙ ap (λ (y : Seen). with_hart h y (core_in m)) (sym (seen-running m h r))
      ∙ ap (λ (hs : List Seen). record (core_in m) { harts = hs }) (set-get_or (core_in m).harts h nobody_seen)

  -- the call waits
  abbrev pub now_waiting : Held
  now_waiting = changed m h (waits (hart_among m.harts h)) now_announced.parts.harts m.parts.ram m.dead true

  pub fits-waiting : Fits now_waiting
  fits-waiting =
      let x = hart_among m.harts h in
      let c : IsChange m h (waits x) now_announced.parts.harts m.parts.ram m.dead true = record {
        fits = r.act.fits;
        there = r.act.there;
        count = count-step m.parts.harts h (announced h range_now.0 range_now.1);
        others = others-announced;
        tied = subst (λ (k : Kept). IsTied (range_of m.parts) h (waits x) k) (sym own-announced)
            (record { halted = running-kept m h r; flight = record { first = refl; count = refl }; domain = (r.act.fits.ties h).domain });
        bytes = refl;
        deads = r.act.fits.dead;
        quiet = λ q. absurd (let z : ⊥ = cc in z);
      } in
      fits-change m h (waits x) now_announced.parts.harts m.parts.ram m.dead true c

  waiting-core : core_in now_waiting ≡ with_hart h (record (hart_in m h) { status = Waiting (own_call h (hart_among m.harts h)) nobody })
      (core_in m)
  waiting-core =
      let x = hart_among m.harts h in
      core-step m h (waits x) now_announced.parts (λ i ne. ap (λ (k : Kept). k.flight) (others-announced i ne))
      ∙ ap (with_hart h (seen h (waits x) (kept_at now_announced.parts.harts h)))
      (core-kept (rest_of m) m.parts h (announced h range_now.0 range_now.1) refl)
      ∙ ap (λ (k : Kept). with_hart h (seen h (waits x) k) (core_in m)) own-announced
      ∙ sym (ap (λ (y : Seen). with_hart h (record y { status = Waiting (own_call h x) nobody }) (core_in m)) (seen-running m h r))

  -- whether it is served at once
  served-if : (b c : Bool) → is_announced (own_call h (hart_among m.harts h)).number ≡ b → is_ready h now_announced.parts.harts ≡ c →
      is_served_now (core_in m) h (own_call h (hart_among m.harts h)) ≡ (not b || c)
  served-if b c eb ec = search (arith, ready-now, range_now.0, range_now.1, r.act.fits)

  asks-as : (z : Bool) → is_served_now (core_in m) h (own_call h (hart_among m.harts h)) ≡ z →
      made_by m h (Asks (call_of h (hart_in m h))) ≡ asked (reads_of m) (core_in m) h (hart_in m h) (own_call h (hart_among m.harts h)) z
  asks-as z e = search (arith, call-is, m.harts)

  pub made-waiting : is_announced (own_call h (hart_among m.harts h)).number ≡ true → is_ready h now_announced.parts.harts ≡ false →
      IsMade m now_waiting no_events T.Called (made_by m h (Asks (call_of h (hart_in m h))))
  made-waiting n e =
      subst (λ d. IsMade m now_waiting no_events T.Called d) (sym (asks-as false (served-if true false n e)))
      (record { core = waiting-core; maps = refl; owners = refl; console = refl; note = refl; kind = refl })

  -- served at once, announced or not
  pub made-served : (b c : Bool) → is_announced (own_call h (hart_among m.harts h)).number ≡ b → is_ready h now_announced.parts.harts ≡ c
      → (not b || c) ≡ true →
      made_by m h (Asks (call_of h (hart_in m h))) ≡ served (reads_of m) (core_in m) h (hart_in m h) (own_call h (hart_among m.harts h))
  made-served b c eb ec t = asks-as true (served-if b c eb ec ∙ t)

  -- from the machine in which the call was announced
  pub from-announced : (n : Held) (events : Events) →
      IsMade now_announced n events T.Called (served (reads_of now_announced) (core_in now_announced) h (hart_in now_announced h)
      (own_call h (hart_among m.harts h))) →
      IsMade m n events T.Called (served (reads_of m) (core_in m) h (hart_in m h) (own_call h (hart_among m.harts h)))
  from-announced n events i = grind (arith, m.harts, core-announced)
