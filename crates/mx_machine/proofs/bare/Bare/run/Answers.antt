use Rattle.std.proofs.Common.{ℕ, ◌<◌, false, length, sym, subst, ◌∙◌, ap, arith, get_or}
use Rattle.mx_machine.specs.Goings.{kind_of}
use Rattle.mx_machine.specs.Harts.{hart_among}
use Rattle.mx_machine.specs.Held.{Held}
use Rattle.mx_machine.specs.Made.{IsMade}
use Rattle.mx_machine.proofs.CaseLaws.{at-gate-here, acts-dead, acts-plain}
use Rattle.mx_machine.proofs.bare.Bare.run.Goals as goal

pub gate-requires : goal.gate-requires
gate-requires g c = (assumption c, c.requires.run.act.fits.sound.few_words)

pub trap-requires : goal.trap-requires
trap-requires g c = (assumption c, (c.requires.run, (omega arith, c.requires.empty)))

pub execute-requires : goal.execute-requires
execute-requires g c =
    let m = c.args.self.now in
    let h = c.args.hart in
    let d = c.domain-domain.ensures ∙ ap (λ (m : Held). (hart_among m.harts h).domain) c.self.view_is in
    let p = c.pc-pc.ensures ∙ ap (λ (m : Held). (hart_among m.harts h).pc) c.self.view_is in
    let alive = sym c.is_dead.ensures ∙ c.if-is_dead.false in
    let plain = acts-plain m h c.domain-domain.result c.pc-pc.result c.requires.run d p alive (sym c.in-None.ensures) in
    (assumption c, (c.requires.valid, (c.requires.run, (plain.1, c.requires.empty))))

pub returns-in-None : goal.returns-in-None
returns-in-None g c =
    let m = c.args.self.now in
    let h = c.args.hart in
    let d = c.domain-domain.ensures ∙ ap (λ (m : Held). (hart_among m.harts h).domain) c.self.view_is in
    let p = c.pc-pc.ensures ∙ ap (λ (m : Held). (hart_among m.harts h).pc) c.self.view_is in
    let alive = sym c.is_dead.ensures ∙ c.if-is_dead.false in
    let plain = acts-plain m h c.domain-domain.result c.pc-pc.result c.requires.run d p alive (sym c.in-None.ensures) in
    record {
      made = rw c.kind.ensures (subst (λ e. IsMade m c.execute.new.self c.execute.new.out (kind_of c.execute.result) e) (sym plain.0)
          c.execute.ensures.made);
      fits = c.execute.ensures.fits;
    }

pub returns-then-is_dead : goal.returns-then-is_dead
returns-then-is_dead g c =
    let m = c.args.self.now in
    let h = c.args.hart in
    let d = c.domain-domain.ensures ∙ ap (λ (m : Held). (hart_among m.harts h).domain) c.self.view_is in
    let p = c.pc-pc.ensures ∙ ap (λ (m : Held). (hart_among m.harts h).pc) c.self.view_is in
    let dead = ap (λ (n : ℕ). get_or m.dead n false) (sym d) ∙ sym c.is_dead.ensures ∙ c.if-is_dead.true in
    record {
      made = subst (λ e. IsMade m c.trap.new.self c.trap.new.out c.trap.result e) (sym (acts-dead m h c.pc-pc.result c.requires.run dead p))
          c.trap.ensures.made;
      fits = c.trap.ensures.fits;
    }

pub at_gate-requires : goal.at_gate-requires
at_gate-requires g c =
    let m = c.args.self.now in
    let h = c.args.hart in
    let d = c.domain-domain.ensures ∙ ap (λ (m : Held). (hart_among m.harts h).domain) c.self.view_is in
    let p = c.pc-pc.ensures ∙ ap (λ (m : Held). (hart_among m.harts h).pc) c.self.view_is in
    let alive = sym c.is_dead.ensures ∙ c.if-is_dead.false in
    let at = at-gate-here m h c.domain-domain.result c.pc-pc.result c.in-Some.target c.requires.run d p alive (sym c.in-Some.ensures) in
    (assumption c, (c.requires.valid, (at, c.requires.empty)))

pub domain-domain-requires : goal.domain-domain-requires
domain-domain-requires g c =
    subst (λ (n : Held). c.args.hart < length n.harts) (sym c.self.view_is) c.requires.run.act.there

pub pc-pc-requires : goal.pc-pc-requires
pc-pc-requires g c = subst (λ (n : Held). c.args.hart < length n.harts) (sym c.self.view_is) c.requires.run.act.there

pub is_dead-requires : goal.is_dead-requires
is_dead-requires g c = assumption c

pub returns-in-Some : goal.returns-in-Some
returns-in-Some g c = record { made = rw c.kind-in-Some.ensures c.at_gate.ensures.made; fits = c.at_gate.ensures.fits }
