use Rattle.std.proofs.Common.{◌≡◌, ℕ, ◌<◌, ◌≤◌, [], Some, None, length, arith, refl, sym, subst, ap, ◌∙◌}
use Rattle.mx_check.specs.Harts.{kept_at}
use Rattle.mx_model.specs.declared.values.Note.{Note}
use Rattle.mx_model.specs.declared.values.Note.TheVariants as N
use Rattle.mx_model.specs.Events.{Events}
use Rattle.mx_machine.specs.Actions.{fallen, killed}
use Rattle.mx_machine.specs.Harts.{hart_among}
use Rattle.mx_machine.specs.Held.{Held}
use Rattle.mx_machine.specs.Ties.{Fits}
use Rattle.mx_machine.proofs.AskedLaws.{made-moved}
use Rattle.mx_machine.proofs.MadeLaws.{fits-trap, kept-there, made-trap, running-free}
use Rattle.mx_machine.proofs.bare.Bare.trap.Goals as goal

few-dead : (d x most dead : ℕ) → d ≡ x → x ≤ most → most ≤ 63 → dead ≡ 64 → d < dead
few-dead d x most dead e l few is = omega arith

pub fault-note-requires : goal.fault-note-requires
fault-note-requires g c = (assumption c, c.requires.run.act.there)

pub kill-requires : goal.kill-requires
kill-requires g c =
    let m = c.args.self.now in
    let a = c.requires.run.act in
    let d = c.domain-domain.ensures ∙ ap (λ (m : Held). (hart_among m.harts c.args.hart).domain) c.self.view_is in (
      assumption c,
      (
        subst (λ (n : ℕ). 1 ≤ n) (sym d) a.domain.first,
        few-dead _ _ (length m.parts.maps) _ d a.domain.last a.fits.sound.few_maps
            a.fits.dead,
      ),
    )

pub fall-requires : goal.fall-requires
fall-requires g c =
    let m = c.args.self.now in
    let r = c.requires.run in
    let h = c.args.hart in
    let e = sym c.kill.ensures in (
      assumption c,
      (
        subst (λ (n : Held). h < length n.harts) e r.act.there,
        (
          subst (λ (n : Held). h < length n.parts.harts) e (kept-there m h r.act),
          (subst (λ (n : Held). (kept_at n.parts.harts h).flight ≡ None) e (running-free m h r), c.requires.cause),
        ),
      ),
    )

pub returns : goal.returns
returns g c =
    let m = c.args.self.now in
    let h = c.args.hart in
    let x = hart_among m.harts h in
    let d : c.domain-domain.result ≡ x.domain = c.domain-domain.ensures
    ∙ ap (λ (m : Held). (hart_among m.harts c.args.hart).domain) c.self.view_is in
    let new : c.fall.new.self ≡ fallen h c.args.cause (killed x.domain c.args.cause m) =
    c.fall.ensures ∙ ap (fallen h c.args.cause) (c.kill.ensures ∙ ap (λ (d : ℕ). killed d c.args.cause m) d) in
    let out : c.set_note.new.self ≡ record {
      bytes = [];
      note =
          Some (N.Fault m.steps h x.domain x.pc (record { cause = c.args.cause; value = c.args.value }));
    } =
    c.set_note.ensures ∙ ap (λ (e : Events). record e { note = Some c.fault-note.result }) c.requires.empty
    ∙ ap (λ (n : Note). record { bytes = []; note = Some n }) c.fault-note.ensures in
    record {
      made = made-moved m _ _ _ _ _ _ _ (sym new) (sym out) refl (made-trap m h c.args.cause c.args.value c.requires.run);
      fits = subst (λ (n : Held). Fits n) (sym new) (fits-trap m h c.args.cause c.requires.run);
    }

pub domain-domain-requires : goal.domain-domain-requires
domain-domain-requires g c =
    subst (λ (m : Held). c.args.hart < length m.harts) (sym c.self.view_is) c.requires.run.act.there
