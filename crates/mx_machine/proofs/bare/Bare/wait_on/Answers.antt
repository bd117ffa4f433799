use Rattle.std.proofs.Common.{◌≡◌, ◌<◌, true, false, length, refl, ap, sym, subst, ◌∙◌}
use Rattle.std.specs.List.{list_any}
use Rattle.mx_check.specs.Calls.{is_ready}
use Rattle.mx_model.specs.declared.values.Call.{Call}
use Rattle.mx_model.specs.declared.values.TurnKind.TheVariants as T
use Rattle.mx_model.specs.Events.{Events}
use Rattle.mx_model.specs.Turn.{served}
use Rattle.mx_machine.specs.declared.hart.Hart.{Hart}
use Rattle.mx_machine.specs.Harts.{hart_among, is_waiting, own_call}
use Rattle.mx_machine.specs.Held.{Held}
use Rattle.mx_machine.specs.Made.{IsMade, core_in, made_after_hearing, hart_in, reads_of}
use Rattle.mx_machine.specs.Serving.{IsServing}
use Rattle.mx_machine.specs.Ties.{Fits}
use Rattle.mx_machine.proofs.AskLaws.{serving-waiting}
use Rattle.mx_machine.proofs.AskedLaws.{made-moved}
use Rattle.mx_machine.proofs.MadeLaws.{kept-there}
use Rattle.mx_machine.proofs.WaitLaws.{fits-settled, made-settled, made-waits, waiting-announced}
use Rattle.mx_machine.proofs.InnerSizes.{checker-inside}
use Rattle.mx_machine.proofs.bare.Bare.wait_on.Goals as goal

pub ready-requires : goal.ready-requires
ready-requires g c = (
  search checker-inside,
  subst (λ (n : Held). c.args.hart < length n.parts.harts) (sym c.self.view_is)
      (kept-there c.args.self.now c.args.hart c.requires.act),
)

pub returns-then-not-ready-clause-made : goal.returns-then-not-ready-clause-made
returns-then-not-ready-clause-made g c =
    let m = c.args.self.now in
    let h = c.args.hart in
    let late : is_ready h m.parts.harts ≡ false =
    ap (λ (n : Held). is_ready h n.parts.harts) (sym c.self.view_is) ∙ sym c.ready.ensures.ready ∙ c.if-not-ready.true in
    subst (λ (e : Events). IsMade m m e T.Waited (made_after_hearing m h)) (sym c.requires.empty)
    (made-waits m h c.requires.act c.requires.waits late)

pub returns-then-not-ready-clause-fits : goal.returns-then-not-ready-clause-fits
returns-then-not-ready-clause-fits g c = c.requires.act.fits

pub call-call-requires : goal.call-call-requires
call-call-requires g c = subst (λ (n : Held). c.args.hart < length n.harts) (sym c.self.view_is) c.requires.act.there

pub serve-requires : goal.serve-requires
serve-requires g c = (
  assumption c,
  (
    let m = c.args.self.now in
        let h = c.args.hart in
        let a = c.requires.act in
        let own : c.call-call.result ≡ own_call h (hart_among m.harts h) = c.call-call.ensures
        ∙ ap (λ (n : Held). own_call h (hart_among n.harts h)) c.self.view_is in
        let ready : is_ready h m.parts.harts ≡ true =
        ap (λ (n : Held). is_ready h n.parts.harts) (sym c.self.view_is) ∙ sym c.ready.ensures.ready ∙ c.if-not-ready.false in
        subst (λ (k : Call). IsServing m h k) (sym own)
        (serving-waiting m h a c.requires.waits (waiting-announced m h c.requires.valid a.there c.requires.waits) ready),
    c.requires.empty,
  ),
)

pub any_waits-self-inside-requires : goal.any_waits-self-inside-requires
any_waits-self-inside-requires g c = tt

pub returns-clause-made : goal.returns-clause-made
returns-clause-made g c =
    let m = c.args.self.now in
    let h = c.args.hart in
    let n = c.serve.new.self in
    let w = c.any_waits-self-inside.result in
    let own : c.call-call.result ≡ own_call h (hart_among m.harts h) = c.call-call.ensures
    ∙ ap (λ (n : Held). own_call h (hart_among n.harts h)) c.self.view_is in
    let ready : is_ready h m.parts.harts ≡ true =
    ap (λ (n : Held). is_ready h n.parts.harts) (sym c.self.view_is) ∙ sym c.ready.ensures.ready ∙ c.if-not-ready.false in
    made-moved m (record n { waiting = w }) _ _ _ _ _ _ (sym (ap (λ (n : Held). record n { waiting = w }) c.self-2.view_is)) refl refl
    (made-settled m n h w c.serve.new.out c.requires.act c.requires.waits ready
    (subst (λ (k : Call). IsMade m n c.serve.new.out T.Called (served (reads_of m) (core_in m) h (hart_in m h) k)) own
    c.serve.ensures.made))

pub returns-clause-fits : goal.returns-clause-fits
returns-clause-fits g c =
    let n = c.serve.new.self in
    subst (λ (n : Held). Fits n)
    (sym (rw c.any_waits-self-inside.ensures (ap (λ (n : Held).
    record n { waiting = list_any (λ (x : Hart). is_waiting x.progress) n.harts }) c.self-2.view_is)))
    (fits-settled n c.serve.ensures.fits)
