use Rattle.std.proofs.Common.{◌≡◌, ◌<◌, true, false, length, List, refl, ap, sym, subst, ◌∙◌, Option, Some, None}
use Rattle.std.specs.Prelude.{is_some}
use Rattle.mx_check.specs.Harts.{Kept, kept_at, leaves_domain}
use Rattle.mx_check.specs.Harts.{halts as counts_as_halted}
use Rattle.mx_model.specs.declared.values.Frame.{Frame}
use Rattle.mx_model.specs.Gates.{top}
use Rattle.mx_machine.specs.declared.hart.Hart.{Hart}
use Rattle.mx_machine.specs.Actions.{fallen, gives_up_kept, with_kept, with_step}
use Rattle.mx_machine.specs.Harts.{hart_among}
use Rattle.mx_machine.specs.Held.{Held}
use Rattle.mx_machine.specs.Steps.{gives_up}
use Rattle.mx_machine.proofs.InnerSizes.{checker-inside}
use Rattle.mx_machine.proofs.ViewLaws.{held_of}
use Rattle.mx_machine.proofs.bare.Bare.fall.Goals as goal

kept-over : (o : Option Frame) → is_some o ≡ true → gives_up_kept o ≡ leaves_domain
kept-over None e = absurd (let q : ⊥ = cc in q)
kept-over (Some f) e = refl

kept-none : (o : Option Frame) → is_some o ≡ false → gives_up_kept o ≡ counts_as_halted
kept-none None e = refl
kept-none (Some f) e = absurd (let q : ⊥ = cc in q)

pub returns-then-give_up : goal.returns-then-give_up
returns-then-give_up g c =
    let p = g.T.PermTables in
    let b = c.self.inside in
    let v = held_of p b in
    let h = c.args.hart in
    let o = top (hart_among b.harts h).frames in
    ap (λ k. held_of p (record b {
      bus = record b.bus { supervisor = record b.bus.supervisor { checker = k } };
      harts =
          c.give_up.new.self;
    })) c.leave_domain.ensures
    ∙ ap (λ (hs : List Hart). with_kept h leaves_domain (record v { harts = hs })) c.give_up.ensures.after
    ∙ ap (λ (f : Kept → Kept). with_kept h f (with_step h (gives_up c.args.cause) v))
    (sym (kept-over o (sym c.give_up.ensures.frame ∙ c.if-give_up.true)))
    ∙ ap (λ (m : Held). fallen h c.args.cause m) c.self.view_is

pub returns-else-give_up : goal.returns-else-give_up
returns-else-give_up g c =
    let p = g.T.PermTables in
    let b = c.self.inside in
    let v = held_of p b in
    let h = c.args.hart in
    let o = top (hart_among b.harts h).frames in
    ap (λ k. held_of p (record b {
      bus = record b.bus { supervisor = record b.bus.supervisor { checker = k } };
      harts =
          c.give_up.new.self;
    })) c.halt.ensures
    ∙ ap (λ (hs : List Hart). with_kept h counts_as_halted (record v { harts = hs })) c.give_up.ensures.after
    ∙ ap (λ (f : Kept → Kept). with_kept h f (with_step h (gives_up c.args.cause) v))
    (sym (kept-none o (sym c.give_up.ensures.frame ∙ c.if-give_up.false)))
    ∙ ap (λ (m : Held). fallen h c.args.cause m) c.self.view_is

pub give_up-requires-clause-hart : goal.give_up-requires-clause-hart
give_up-requires-clause-hart g c =
    subst (λ (m : Held). c.args.hart < length m.harts) (sym c.self.view_is) c.requires.there

pub give_up-requires-clause-cause : goal.give_up-requires-clause-cause
give_up-requires-clause-cause g c = c.requires.cause

pub leave_domain-requires : goal.leave_domain-requires
leave_domain-requires g c = (
  search checker-inside,
  subst (λ (m : Held). c.args.hart < length m.parts.harts) (sym c.self.view_is) c.requires.kept,
)

pub halt-requires : goal.halt-requires
halt-requires g c = (
  search checker-inside,
  (
    subst (λ (m : Held). c.args.hart < length m.parts.harts) (sym c.self.view_is) c.requires.kept,
    subst (λ (m : Held). (kept_at m.parts.harts c.args.hart).flight ≡ None) (sym c.self.view_is) c.requires.free,
  ),
)
