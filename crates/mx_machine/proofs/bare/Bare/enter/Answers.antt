use Rattle.std.proofs.Common.{ℕ, length, List, sym, subst, ap, ◌∙◌, ◌≡◌, ◌<◌, ◌≤◌, ◌⊎◌, ◌+◌, ◌*◌}
use Rattle.std.specs.Prelude.{unwrap_or}
use Rattle.mx_words.specs.Limits.{most_frames}
use Rattle.mx_words.specs.Ranges.{most_words}
use Rattle.mx_check.specs.Harts.{leaves_domain}
use Rattle.mx_model.specs.Gates.{nearest}
use Rattle.mx_machine.specs.declared.hart.Hart.{Hart}
use Rattle.mx_machine.specs.Actions.{crossed, with_kept, with_step}
use Rattle.mx_machine.specs.Harts.{hart_among}
use Rattle.mx_machine.specs.Held.{Held, area_of}
use Rattle.mx_machine.specs.Steps.{enters}
use Rattle.mx_machine.proofs.InnerSizes.{checker-inside}
use Rattle.mx_machine.proofs.ViewLaws.{held_of}
use Rattle.mx_machine.proofs.bare.Bare.enter.Goals as goal

pub behind-own-requires-clause-area : goal.behind-own-requires-clause-area
behind-own-requires-clause-area g c =
    subst (λ (m : Held). ((area_of m.stacks c.args.target).words ≡ 0)
    ⊎ ((area_of m.stacks c.args.target).first + (area_of m.stacks c.args.target).words * (c.args.hart + 1) ≤ most_words))
    (sym c.self.view_is) c.requires.area

pub returns : goal.returns
returns g c =
    let p = g.T.PermTables in
    let b = c.self.inside in
    let v = held_of p b in
    let h = c.args.hart in
    let to = c.args.target in
    ap (λ k. held_of p (record b { bus = record b.bus { supervisor = record b.bus.supervisor { checker = k } }; harts = c.enter.new.self }))
    c.leave_domain.ensures
    ∙ ap (λ (hs : List Hart). with_kept h leaves_domain (record v { harts = hs })) c.enter.ensures
    ∙ ap (λ (n : ℕ). with_kept h leaves_domain (with_step h (enters to n) v))
    (c.stack_in-stack.ensures ∙ ap (λ (own : ℕ). unwrap_or (nearest (hart_among v.harts h).frames to) own) c.behind-own.ensures)
    ∙ ap (λ (m : Held). crossed h to m) c.self.view_is

pub behind-own-requires-clause-domain : goal.behind-own-requires-clause-domain
behind-own-requires-clause-domain g c = c.requires.target

pub stack_in-stack-requires : goal.stack_in-stack-requires
stack_in-stack-requires g c = subst (λ (m : Held). c.args.hart < length m.harts) (sym c.self.view_is) c.requires.there

pub enter-requires-clause-hart : goal.enter-requires-clause-hart
enter-requires-clause-hart g c =
    subst (λ (m : Held). c.args.hart < length m.harts) (sym c.self.view_is) c.requires.there

pub enter-requires-clause-room : goal.enter-requires-clause-room
enter-requires-clause-room g c =
    subst (λ (m : Held). length (hart_among m.harts c.args.hart).frames < most_frames)
    (sym c.self.view_is) c.requires.room

pub leave_domain-requires : goal.leave_domain-requires
leave_domain-requires g c = (
  search checker-inside,
  subst (λ (m : Held). c.args.hart < length m.parts.harts) (sym c.self.view_is) c.requires.kept,
)
