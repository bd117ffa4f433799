use Rattle.std.proofs.Common.{◌≡◌, ◌<◌, false, length, List, sym, ap, subst, ◌∙◌}
use Rattle.mx_check.specs.Harts.{Kept, kept_at}
use Rattle.mx_machine.specs.Actions.{heard}
use Rattle.mx_machine.specs.Held.{Held}
use Rattle.mx_machine.proofs.HearLaws.{all-quiet, heard-quiet}
use Rattle.mx_machine.proofs.InnerSizes.{checker-inside}
use Rattle.mx_machine.proofs.ViewLaws.{held_of}
use Rattle.mx_machine.proofs.bare.Bare.hear.Goals as goal

pub returns-else-self-clause-after : goal.returns-else-self-clause-after
returns-else-self-clause-after g c =
    ap (λ (kept : List Kept). record c.args.self.now { parts = record c.args.self.now.parts { harts = kept } })
    (sym (heard-quiet c.args.self.now.parts.harts c.args.hart
    (c.requires.quiet (sym (ap (λ (m : Held). m.waiting) c.self.view_is) ∙ c.if-self.false))))

pub returns-else-self-clause-all : goal.returns-else-self-clause-all
returns-else-self-clause-all g c =
    all-quiet c.args.self.now.parts.harts c.args.hart (c.requires.quiet (sym (ap (λ (m : Held). m.waiting) c.self.view_is)
    ∙ c.if-self.false))

pub hear-requires : goal.hear-requires
hear-requires g c = (
  search checker-inside,
  (
    subst (λ (m : Held). c.args.hart < length m.parts.harts) (sym c.self.view_is) c.requires.hart,
    subst (λ (m : Held). (kept_at m.parts.harts c.args.hart).halted ≡ false) (sym c.self.view_is) c.requires.running,
  ),
)

pub returns-then-self-clause-after : goal.returns-then-self-clause-after
returns-then-self-clause-after g c =
    let p = g.T.PermTables in
    let b = c.self.inside in
    ap (λ k. held_of p (record b { bus = record b.bus { supervisor = record b.bus.supervisor { checker = k } } }))
    c.hear.ensures.after
    ∙ ap (λ (m : Held). heard c.args.hart m) c.self.view_is

pub returns-then-self-clause-all : goal.returns-then-self-clause-all
returns-then-self-clause-all g c = c.hear.ensures.heard
