use Rattle.std.proofs.Common.{ℕ, ◌<◌, length, sym, ap, subst, ◌∙◌}
use Rattle.mx_table.specs.Tables.{IsDomain}
use Rattle.mx_check.specs.Harts.{announced}
use Rattle.mx_check.proofs.LookLaws.{length-at_hart}
use Rattle.mx_supervisor.specs.Parts.{AreJoined}
use Rattle.mx_supervisor.specs.Served.{range_of}
use Rattle.mx_machine.specs.Actions.{with_kept}
use Rattle.mx_machine.specs.Held.{Held}
use Rattle.mx_machine.proofs.InnerSizes.{checker-inside, supervisor-inside}
use Rattle.mx_machine.proofs.ViewLaws.{held_of}
use Rattle.mx_machine.proofs.bare.Bare.announce.Goals as goal

pub announce-requires : goal.announce-requires
announce-requires g c = (search checker-inside, (rw (← c.self.view_is) at c.requires.may, c.announced-first.ensures.within))

pub announced-first-requires : goal.announced-first-requires
announced-first-requires g c = (
  search supervisor-inside,
  (
    subst (λ (m : Held). AreJoined m.parts) (sym c.self.view_is) c.requires.joined,
    (
      c.requires.announced,
      subst (λ (m : Held). IsDomain m.parts.maps c.args.call.now.domain) (sym c.self.view_is) c.requires.domain,
    ),
  ),
)

pub returns-clause-after : goal.returns-clause-after
returns-clause-after g c =
    let p = g.T.PermTables in
    let b = c.self.inside in
    let v = held_of p b in
    let h = c.args.hart in
    let call = c.args.call.now in
    ap (λ k. held_of p (record b { bus = record b.bus { supervisor = record b.bus.supervisor { checker = k } } }))
    c.announce.ensures
    ∙ ap (λ (r : ℕ × ℕ). with_kept h (announced h r.0 r.1) v) c.announced-first.ensures.range
    ∙ ap (λ (m : Held). with_kept h (announced h (range_of m.parts call).0 (range_of m.parts call).1) m) c.self.view_is

pub ready-requires : goal.ready-requires
ready-requires g c =
    let h = c.args.hart in
    let harts = c.self.inside.bus.supervisor.checker.harts in
    let step = announced h c.announced-first.result.0 c.announced-first.result.1 in
    let there = subst (λ (m : Held). h < length m.parts.harts) (sym c.self.view_is) c.requires.may.hart in (
      search checker-inside,
      subst (λ k. h < length k.harts) (sym c.announce.ensures)
          (subst (λ (n : ℕ). h < n) (sym (length-at_hart harts h step)) there),
    )
