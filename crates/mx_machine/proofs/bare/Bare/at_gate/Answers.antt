use Rattle.std.proofs.Common.{◌<◌, true, length, sym, subst, ◌∙◌, ap}
use Rattle.mx_machine.specs.Goings.{kind_of}
use Rattle.mx_machine.specs.Harts.{hart_among}
use Rattle.mx_machine.specs.Held.{Held}
use Rattle.mx_machine.specs.Made.{IsMade}
use Rattle.mx_machine.specs.Ties.{RunsAlive}
use Rattle.mx_machine.proofs.CaseLaws.{acts-gate, acts-return, target-domain}
use Rattle.mx_machine.proofs.KindLaws.{ended-on, gate-ended}
use Rattle.mx_machine.proofs.StretchLaws.{alive-instruction}
use Rattle.mx_machine.proofs.bare.Bare.at_gate.Goals as goal

pub execute-requires : goal.execute-requires
execute-requires g c =
    let m = c.args.self.now in
    let h = c.args.hart in
    let at = c.requires.at in
    let d = c.domain-domain.ensures ∙ ap (λ (k : Held). (hart_among k.harts h).domain) c.self.view_is in
    (assumption c, (c.requires.valid, (at.run, ((acts-return m h c.args.target at (c.if-target-domain.true ∙ d)).1, c.requires.empty))))

pub returns-then-target-domain : goal.returns-then-target-domain
returns-then-target-domain g c =
    let m = c.args.self.now in
    let h = c.args.hart in
    let d = c.domain-domain.ensures ∙ ap (λ (k : Held). (hart_among k.harts h).domain) c.self.view_is in
    let back = acts-return m h c.args.target c.requires.at (c.if-target-domain.true ∙ d) in
    let at = c.requires.at in
    record {
      made = subst (λ e. IsMade m c.execute.new.self c.execute.new.out (kind_of c.execute.result) e) (sym back.0) c.execute.ensures.made;
      fits = c.execute.ensures.fits;
      on = λ on.
          let e = c.execute.ensures.on on in
          (subst (λ (k : Held). RunsAlive k h) (sym e.0) (alive-instruction m h true at.run at.alive), e.1);
      ran = c.execute.ensures.ran;
    }

pub pass-requires : goal.pass-requires
pass-requires g c =
    let m = c.args.self.now in
    let x = hart_among m.harts c.args.hart in
    let at = c.requires.at in (
      assumption c,
      (
        c.requires.valid,
        (
          at.run,
          (
            target-domain m x.domain x.pc c.args.target c.requires.valid at.run.act.fits
                at.gate,
            c.requires.empty,
          ),
        ),
      ),
    )

pub returns-else-target-domain : goal.returns-else-target-domain
returns-else-target-domain g c =
    let m = c.args.self.now in
    let h = c.args.hart in
    let d = c.domain-domain.ensures ∙ ap (λ (k : Held). (hart_among k.harts h).domain) c.self.view_is in
    let gate = acts-gate m h c.args.target c.requires.at (λ e. c.if-target-domain.false (e ∙ sym d)) in
    record {
      made = subst (λ e. IsMade m c.pass.new.self c.pass.new.out c.pass.result e) (sym gate) c.pass.ensures.made;
      fits = c.pass.ensures.fits;
      on = λ on. absurd (ended-on _ on);
      ran = λ ran. absurd (gate-ended m h c.args.target (sym c.pass.ensures.made.kind ∙ ran));
    }

pub domain-domain-requires : goal.domain-domain-requires
domain-domain-requires g c =
    subst (λ (m : Held). c.args.hart < length m.harts) (sym c.self.view_is) c.requires.at.run.act.there
