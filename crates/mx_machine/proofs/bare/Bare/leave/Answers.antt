use Rattle.std.proofs.Common.{◌<◌, length, List, sym, ap, subst, ◌∙◌}
use Rattle.mx_check.specs.Harts.{leaves_domain}
use Rattle.mx_machine.specs.declared.hart.Hart.{Hart}
use Rattle.mx_machine.specs.Actions.{returned, with_kept}
use Rattle.mx_machine.specs.Held.{Held}
use Rattle.mx_machine.proofs.InnerSizes.{checker-inside}
use Rattle.mx_machine.proofs.ViewLaws.{held_of}
use Rattle.mx_machine.proofs.bare.Bare.leave.Goals as goal

pub returns : goal.returns
returns g c =
    let p = g.T.PermTables in
    let b = c.self.inside in
    let v = held_of p b in
    let h = c.args.hart in
    ap (λ k. held_of p (record b {
      bus = record b.bus { supervisor = record b.bus.supervisor { checker = k } };
      harts =
          c.go_back.new.self;
    })) c.leave_domain.ensures
    ∙ ap (λ (hs : List Hart). with_kept h leaves_domain (record v { harts = hs })) c.go_back.ensures
    ∙ ap (λ (m : Held). returned h c.args.rd m) c.self.view_is

pub go_back-requires-clause-hart : goal.go_back-requires-clause-hart
go_back-requires-clause-hart g c =
    subst (λ (m : Held). c.args.hart < length m.harts) (sym c.self.view_is) c.requires.there

pub go_back-requires-clause-rd : goal.go_back-requires-clause-rd
go_back-requires-clause-rd g c = c.requires.rd

pub leave_domain-requires : goal.leave_domain-requires
leave_domain-requires g c = (
  search checker-inside,
  subst (λ (m : Held). c.args.hart < length m.parts.harts) (sym c.self.view_is) c.requires.kept,
)
