use Rattle.std.proofs.Common.{◌≡◌, length, ap, sym, subst, ◌∙◌}
use Rattle.mx_model.specs.State.{Flat, module_at}
use Rattle.mx_model.specs.Valid.{IsModule}
use Rattle.mx_machine.specs.Held.{area_of}
use Rattle.mx_machine.specs.Made.{core_in}
use Rattle.mx_machine.specs.Readings.{IsAreaOf}
use Rattle.mx_machine.proofs.ReadLaws.{area-none, area-some}
use Rattle.mx_machine.proofs.machine.Machine.stack_area.Goals as goal

pub returns-then-area-eq0 : goal.returns-then-area-eq0
returns-then-area-eq0 g c =
    let m = c.self.inside.bare in
    let there : IsModule (length (core_in m).modules) c.args.domain =
    subst (λ (f : Flat). IsModule (length f.core.modules) c.args.domain) (sym c.self.view_is) c.requires in
    let is : c.area-area.result ≡ area_of m.stacks c.args.domain = c.area-area.ensures
    ∙ ap (λ x. area_of x.bare.stacks c.args.domain) c.self-inside.view_is in
    subst (λ (f : Flat). IsAreaOf (module_at f.core c.args.domain) (record c.area-area.result { first = 0 })) c.self.view_is
    (area-none m c.self.invariant.fits c.args.domain c.area-area.result there is c.if-area-eq0.true)

pub returns-else-area-eq0 : goal.returns-else-area-eq0
returns-else-area-eq0 g c =
    let m = c.self.inside.bare in
    let there : IsModule (length (core_in m).modules) c.args.domain =
    subst (λ (f : Flat). IsModule (length f.core.modules) c.args.domain) (sym c.self.view_is) c.requires in
    let is : c.area-area.result ≡ area_of m.stacks c.args.domain = c.area-area.ensures
    ∙ ap (λ x. area_of x.bare.stacks c.args.domain) c.self-inside.view_is in
    subst (λ (f : Flat). IsAreaOf (module_at f.core c.args.domain) c.area-area.result) c.self.view_is
    (area-some m c.self.invariant.fits c.args.domain c.area-area.result there is c.if-area-eq0.false)
