-- A call that is asked for, as the code comes to it: the call that was read, announced or not, and the machine in which it is served.
use Rattle.std.proofs.Common.{◌≡◌, ℕ, true, false, refl, sym, ap, subst, ◌∙◌, arith}
use Rattle.mx_words.specs.Announced.{is_announced}
use Rattle.mx_check.specs.Calls.{is_ready}
use Rattle.mx_check.specs.Conditions.{MayAnnounce}
use Rattle.mx_check.specs.Harts.{announced}
use Rattle.mx_model.specs.declared.values.Call.{Call}
use Rattle.mx_model.specs.declared.values.TurnKind.{TurnKind}
use Rattle.mx_model.specs.declared.values.TurnKind.TheVariants as T
use Rattle.mx_model.specs.Events.{Events}
use Rattle.mx_model.specs.Turn.{Asks, Made, call_of, served}
use Rattle.mx_supervisor.specs.Served.{range_of}
use Rattle.mx_machine.specs.Actions.{with_kept}
use Rattle.mx_machine.specs.Harts.{hart_among, own_call}
use Rattle.mx_machine.specs.Held.{Held}
use Rattle.mx_machine.specs.Made.{IsMade, core_in, made_by, hart_in, reads_of}
use Rattle.mx_machine.specs.Serving.{IsServing}
use Rattle.mx_machine.specs.Ties.{MayRun}
use Rattle.mx_machine.proofs.AskLaws.{from-announced, made-served, now_announced, serving-announced, serving-plain}
use Rattle.mx_machine.proofs.MadeLaws.{kept-there, running-free, running-kept}

-- what is made is made of equal machines, with equal events, and is an equal thing
pub made-moved : (m n n' : Held) (e e' : Events) (k : TurnKind) (d d' : Made) → n ≡ n' → e ≡ e' → d ≡ d' → IsMade m n e k d
    → IsMade m n' e' k d'
made-moved m n n' e e' k d d' p q r i = search arith

pub may-announce : (m : Held) (h : ℕ) → MayRun m h → MayAnnounce h m.parts.harts
may-announce m h r = record { hart = kept-there m h r.act; running = running-kept m h r; free = running-free m h r }

-- the machine in which a call was announced
pub announced-call : (m : Held) (h : ℕ) (call : Call) (r : MayRun m h) → call ≡ own_call h (hart_among m.harts h) →
    with_kept h (announced h (range_of m.parts call).0 (range_of m.parts call).1) m ≡ now_announced m h r
announced-call m h call r e = ap (λ (k : Call). with_kept h (announced h (range_of m.parts k).0 (range_of m.parts k).1) m) e

-- a call that was announced and is ready
module _ (m s : Held) (h : ℕ) (call : Call) (r : MayRun m h) (own : call ≡ own_call h (hart_among m.harts h))
    (now : s ≡ now_announced m h r)
    (must : is_announced call.number ≡ true) (ready : is_ready h s.parts.harts ≡ true) where
  must' : is_announced (own_call h (hart_among m.harts h)).number ≡ true
  must' = ap (λ (k : Call). is_announced k.number) (sym own) ∙ must

  ready' : is_ready h (now_announced m h r).parts.harts ≡ true
  ready' = ap (λ (n : Held). is_ready h n.parts.harts) (sym now) ∙ ready

  pub asked-serving : IsServing s h call
  asked-serving = search (arith, m.harts, serving-announced, must', ready')

  pub asked-made : (n : Held) (e : Events) → IsMade s n e T.Called (served (reads_of s) (core_in s) h (hart_in s h) call) →
      IsMade m n e T.Called (made_by m h (Asks (call_of h (hart_in m h))))
  asked-made n e i =
      subst (λ (d : Made). IsMade m n e T.Called d) (sym (made-served m h r true true must' ready' refl))
      (from-announced m h r n e
      (subst (λ (t : Held). IsMade t n e T.Called (served (reads_of t) (core_in t) h (hart_in t h) (own_call h (hart_among m.harts h)))) now
      (subst (λ (k : Call). IsMade s n e T.Called (served (reads_of s) (core_in s) h (hart_in s h) k)) own i)))

-- a call that isn't announced
module _ (m s : Held) (h : ℕ) (call : Call) (r : MayRun m h) (own : call ≡ own_call h (hart_among m.harts h)) (same : s ≡ m)
    (plain : is_announced call.number ≡ false) where
  plain' : is_announced (own_call h (hart_among m.harts h)).number ≡ false
  plain' = ap (λ (k : Call). is_announced k.number) (sym own) ∙ plain

  pub plain-serving : IsServing s h call
  plain-serving = search (arith, m.harts, serving-plain, plain')

  pub plain-made : (n : Held) (e : Events) → IsMade s n e T.Called (served (reads_of s) (core_in s) h (hart_in s h) call) →
      IsMade m n e T.Called (made_by m h (Asks (call_of h (hart_in m h))))
  plain-made n e i = search (arith, made-served, plain', m.harts)
