use Rattle.std.proofs.Common.{ℕ, ◌<◌, length, sym, ap, subst, ◌∙◌}
use Rattle.mx_model.specs.declared.values.Note.TheVariants as N
use Rattle.mx_machine.specs.Harts.{hart_among}
use Rattle.mx_machine.specs.Held.{Held}
use Rattle.mx_machine.proofs.bare.Bare.fault.Goals as goal

pub returns : goal.returns
returns g c =
    let b = c.self.inside in
    let h = c.args.hart in
    ap (λ (d : ℕ). N.Fault b.steps h d c.pc.result c.args.fault) c.domain.ensures
    ∙ ap (λ (a : ℕ). N.Fault b.steps h (hart_among b.harts h).domain a c.args.fault) c.pc.ensures
    ∙ ap (λ (m : Held). N.Fault m.steps h (hart_among m.harts h).domain (hart_among m.harts h).pc c.args.fault) c.self.view_is

pub domain-requires : goal.domain-requires
domain-requires g c = subst (λ (m : Held). c.args.hart < length m.harts) (sym c.self.view_is) c.requires

pub pc-requires : goal.pc-requires
pc-requires g c = subst (λ (m : Held). c.args.hart < length m.harts) (sym c.self.view_is) c.requires
