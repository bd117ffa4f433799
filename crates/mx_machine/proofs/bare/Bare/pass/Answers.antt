use Rattle.std.proofs.Common.{◌≡◌, ◌<◌, ◌%◌, length, refl, ap, sym, subst, ◌∙◌, arith, eq-eqb}
use Rattle.std.proofs.lemmas.Bool.{ne_eqb}
use Rattle.std.specs.Prelude.{slice_set}
use Rattle.mx_model.specs.Effect.{reg}
use Rattle.mx_model.specs.Turn.{fault_answer}
use Rattle.mx_machine.specs.Actions.{crossed, with_step}
use Rattle.mx_machine.specs.Harts.{hart_among}
use Rattle.mx_machine.specs.Held.{Held}
use Rattle.mx_machine.specs.Steps.{goes}
use Rattle.mx_machine.specs.Ties.{Fits}
use Rattle.mx_machine.proofs.AskedLaws.{made-moved}
use Rattle.mx_machine.proofs.CaseLaws.{gate-bounces, gate-crooked, gate-crosses, gate-full}
use Rattle.mx_machine.proofs.MadeLaws.{fits-bounce, fits-cross, here, kept-there, made-bounce, made-cross}
use Rattle.mx_machine.proofs.PassLaws.{area-inside, full, room}
use Rattle.mx_machine.proofs.bare.Bare.pass.Goals as goal

cause-19 : 19 < 256
cause-19 = omega arith

cause-16 : 16 < 256
cause-16 = omega arith

pub link-link-requires : goal.link-link-requires
link-link-requires g c = subst (λ (n : Held). c.args.hart < length n.harts) (sym c.self.view_is) c.requires.run.act.there

pub trap-requires : goal.trap-requires
trap-requires g c = (assumption c, (c.requires.run, (cause-19, c.requires.empty)))

pub returns-then-link-ne0-clause-made : goal.returns-then-link-ne0-clause-made
returns-then-link-ne0-clause-made g c =
    let m = c.args.self.now in
    let h = c.args.hart in
    let link = c.link-link.result in
    let el : link ≡ reg (hart_among m.harts h).regs 1 = c.link-link.ensures
    ∙ ap (λ (n : Held). reg (hart_among n.harts h).regs 1) c.self.view_is in
    made-moved m _ _ _ _ _ _ _ refl refl
    (sym (gate-crooked m h c.args.target link c.requires.run c.requires.target el (ne_eqb (link % 4) 0 c.if-link-ne0.true)))
    c.trap.ensures.made

pub returns-then-link-ne0-clause-fits : goal.returns-then-link-ne0-clause-fits
returns-then-link-ne0-clause-fits g c = c.trap.ensures.fits

pub is_dead-requires : goal.is_dead-requires
is_dead-requires g c = assumption c

pub go_with-requires : goal.go_with-requires
go_with-requires g c = subst (λ (n : Held). c.args.hart < length n.harts) (sym c.self.view_is) c.requires.run.act.there

pub returns-then-is_dead-clause-made : goal.returns-then-is_dead-clause-made
returns-then-is_dead-clause-made g c =
    let m = c.args.self.now in
    let h = c.args.hart in
    let link = c.link-link.result in
    let el : link ≡ reg (hart_among m.harts h).regs 1 = c.link-link.ensures
    ∙ ap (λ (n : Held). reg (hart_among n.harts h).regs 1) c.self.view_is in
    made-moved m (with_step h (goes (slice_set (hart_among m.harts h).regs 10 (fault_answer 20)) link) m) _ _ _ _ _ _
    (sym (rw c.go_with.ensures (ap (λ (n : Held). with_step h (goes (slice_set (hart_among n.harts h).regs 10 (fault_answer 20)) link) n)
    c.self.view_is)))
    (sym c.requires.empty)
    (sym (gate-bounces m h c.args.target link c.requires.run c.requires.target el (eq-eqb (link % 4) 0 c.if-link-ne0.false)
    (sym c.is_dead.ensures ∙ c.if-is_dead.true)))
    (made-bounce m h link c.requires.run el)

pub returns-then-is_dead-clause-fits : goal.returns-then-is_dead-clause-fits
returns-then-is_dead-clause-fits g c =
    let m = c.args.self.now in
    let h = c.args.hart in
    let link = c.link-link.result in
    subst (λ (n : Held). Fits n)
    (sym (rw c.go_with.ensures (ap (λ (n : Held). with_step h (goes (slice_set (hart_among n.harts h).regs 10 (fault_answer 20)) link) n)
    c.self.view_is)))
    (fits-bounce m h link (fault_answer 20) c.requires.run)

pub depth-requires : goal.depth-requires
depth-requires g c = subst (λ (n : Held). c.args.hart < length n.harts) (sym c.self.view_is) c.requires.run.act.there

pub pc-pc-requires : goal.pc-pc-requires
pc-pc-requires g c = subst (λ (n : Held). c.args.hart < length n.harts) (sym c.self.view_is) c.requires.run.act.there

pub trap-requires-then-depth-ge-FRAMES : goal.trap-requires-then-depth-ge-FRAMES
trap-requires-then-depth-ge-FRAMES g c = (assumption c, (c.requires.run, (cause-16, c.requires.empty)))

pub returns-then-depth-ge-FRAMES-clause-made : goal.returns-then-depth-ge-FRAMES-clause-made
returns-then-depth-ge-FRAMES-clause-made g c =
    let m = c.args.self.now in
    let h = c.args.hart in
    let link = c.link-link.result in
    let el : link ≡ reg (hart_among m.harts h).regs 1 = c.link-link.ensures
    ∙ ap (λ (n : Held). reg (hart_among n.harts h).regs 1) c.self.view_is in
    let pc : c.pc-pc.result ≡ (hart_among m.harts h).pc = c.pc-pc.ensures ∙ ap (λ (n : Held). (hart_among n.harts h).pc) c.self.view_is in
    let depth : c.depth.result ≡ length (hart_among m.harts h).frames = c.depth.ensures
    ∙ ap (λ (n : Held). length (hart_among n.harts h).frames) c.self.view_is in
    made-moved m _ _ _ _ _ _ _ refl refl
    (sym (gate-full m h c.args.target link c.pc-pc.result c.requires.run c.requires.target el (eq-eqb (link % 4) 0 c.if-link-ne0.false)
    (sym c.is_dead.ensures ∙ c.if-is_dead.false) (full c.depth.result (length (hart_among m.harts h).frames) depth
    c.if-depth-ge-FRAMES.true) pc))
    c.trap-then-depth-ge-FRAMES.ensures.made

pub returns-then-depth-ge-FRAMES-clause-fits : goal.returns-then-depth-ge-FRAMES-clause-fits
returns-then-depth-ge-FRAMES-clause-fits g c = c.trap-then-depth-ge-FRAMES.ensures.fits

pub enter-requires : goal.enter-requires
enter-requires g c = (
  assumption c,
  (
      let m = c.args.self.now in
      let h = c.args.hart in
      let a = c.requires.run.act in
      let depth : c.depth.result ≡ length (hart_among m.harts h).frames = c.depth.ensures
      ∙ ap (λ (n : Held). length (hart_among n.harts h).frames) c.self.view_is in (
        a.there,
        (
          kept-there m h a,
          (
            subst (λ n. n < 64) depth c.if-depth-ge-FRAMES.false,
            (
              c.requires.target.first,
              area-inside m c.args.target h c.requires.valid a.fits (here m c.args.target a.fits c.requires.target) a.there,
            ),
          ),
        ),
      )),
)

pub returns-clause-made : goal.returns-clause-made
returns-clause-made g c =
    let m = c.args.self.now in
    let h = c.args.hart in
    let link = c.link-link.result in
    let el : link ≡ reg (hart_among m.harts h).regs 1 = c.link-link.ensures
    ∙ ap (λ (n : Held). reg (hart_among n.harts h).regs 1) c.self.view_is in
    let depth : c.depth.result ≡ length (hart_among m.harts h).frames = c.depth.ensures
    ∙ ap (λ (n : Held). length (hart_among n.harts h).frames) c.self.view_is in
    made-moved m (crossed h c.args.target m) _ _ _ _ _ _ (sym c.enter.ensures) (sym c.requires.empty)
    (sym (gate-crosses m h c.args.target link c.requires.run c.requires.target el (eq-eqb (link % 4) 0 c.if-link-ne0.false)
    (sym c.is_dead.ensures ∙ c.if-is_dead.false) (room c.depth.result (length (hart_among m.harts h).frames) depth
    c.if-depth-ge-FRAMES.false)))
    (made-cross m h c.args.target c.requires.run c.requires.target)

pub returns-clause-fits : goal.returns-clause-fits
returns-clause-fits g c = subst (λ (n : Held). Fits n) (sym c.enter.ensures)
    (fits-cross c.args.self.now c.args.hart c.args.target c.requires.run)
