use Rattle.std.proofs.Common.{◌<◌, length, refl, arith, sym, subst, ◌∙◌, ap}
use Rattle.std.specs.Prelude.{option_map}
use Rattle.mx_model.specs.declared.values.Frame.{Frame}
use Rattle.mx_model.specs.Gates.{top}
use Rattle.mx_machine.specs.Actions.{returned}
use Rattle.mx_machine.specs.Harts.{hart_among}
use Rattle.mx_machine.specs.Held.{Held}
use Rattle.mx_machine.specs.Ties.{Fits}
use Rattle.mx_machine.proofs.AskedLaws.{made-moved}
use Rattle.mx_machine.proofs.MadeLaws.{kept-there}
use Rattle.mx_machine.proofs.ReturnLaws.{back-none, back-other, back-same}
use Rattle.mx_machine.proofs.bare.Bare.go_back.Goals as goal

cause-18 : 18 < 256
cause-18 = omega arith

cause-17 : 17 < 256
cause-17 = omega arith

pub trap-requires : goal.trap-requires
trap-requires g c = (assumption c, (c.requires.run, (cause-18, c.requires.empty)))

pub leave-requires : goal.leave-requires
leave-requires g c =
    let a = c.requires.run.act in
    (assumption c, (a.there, (kept-there c.args.self.now c.args.hart a, c.requires.rd)))

pub trap-requires-else-back-target : goal.trap-requires-else-back-target
trap-requires-else-back-target g c = (assumption c, (c.requires.run, (cause-17, c.requires.empty)))

pub returns-in-None : goal.returns-in-None
returns-in-None g c =
    let m = c.args.self.now in
    let e = sym (ap (λ (m : Held). option_map (λ (f : Frame). f.back) (top (hart_among m.harts c.args.hart).frames)) c.self.view_is)
    ∙ sym c.in-None.ensures in
    record {
      made = made-moved m _ _ _ _ _ _ _ refl refl (sym (back-none m c.args.hart c.args.rd c.args.target c.requires.run e))
          c.trap.ensures.made;
      fits = c.trap.ensures.fits;
    }

pub returns-then-back-target : goal.returns-then-back-target
returns-then-back-target g c =
    let m = c.args.self.now in
    let e = sym (ap (λ (m : Held). option_map (λ (f : Frame). f.back) (top (hart_among m.harts c.args.hart).frames)) c.self.view_is)
    ∙ sym c.in-Some.ensures in
    let d = back-same m c.args.hart c.args.rd c.args.target c.requires.run _ e c.if-back-target.true in
    record {
      made = made-moved m (returned c.args.hart c.args.rd m) _ _ _ _ _ _ (sym c.leave.ensures) (sym c.requires.empty) refl d.made;
      fits = subst (λ (n : Held). Fits n) (sym c.leave.ensures) d.fits;
    }

pub returns-else-back-target : goal.returns-else-back-target
returns-else-back-target g c =
    let m = c.args.self.now in
    let e = sym (ap (λ (m : Held). option_map (λ (f : Frame). f.back) (top (hart_among m.harts c.args.hart).frames)) c.self.view_is)
    ∙ sym c.in-Some.ensures in
    record {
      made = made-moved m _ _ _ _ _ _ _ refl refl (sym (back-other m c.args.hart c.args.rd c.args.target c.requires.run _ e
          c.if-back-target.false)) c.trap-else-back-target.ensures.made;
      fits = c.trap-else-back-target.ensures.fits;
    }

pub back-requires : goal.back-requires
back-requires g c =
    subst (λ (m : Held). c.args.hart < length m.harts) (sym c.self.view_is) c.requires.run.act.there
