use Rattle.std.proofs.Common.{◌+◌, ◌<◌, ◌^◌, arith, sym, subst, ◌∙◌, ap, refl}
use Rattle.mx_model.specs.Events.{Events}
use Rattle.mx_model.specs.Run.{flat_made}
use Rattle.mx_model.specs.declared.values.TurnKind.TheVariants as T
use Rattle.mx_machine.specs.declared.hart.Progress.TheVariants as G
use Rattle.mx_machine.specs.Actions.{counted, heard}
use Rattle.mx_machine.specs.Harts.{hart_among}
use Rattle.mx_machine.specs.Held.{Held, meaning}
use Rattle.mx_machine.specs.Made.{IsMade}
use Rattle.mx_machine.specs.Ties.{Fits}
use Rattle.mx_machine.proofs.CaseLaws.{fits-counted, turn-running, turn-waiting}
use Rattle.mx_machine.proofs.MayLaws.{acts-now, hart-there, made-idle, made-now, may-hear, stands-now, valid-now}
use Rattle.mx_machine.proofs.bare.Bare.step.Goals as goal

pub returns-in-Halted : goal.returns-in-Halted
returns-in-Halted g c =
    let m = c.args.self.now in
    let h = c.args.hart in
    let at = sym (ap (λ (n : Held). (hart_among n.harts h).progress) c.self.view_is) ∙ sym c.progress.ensures ∙ c.in-Halted.is in
    record {
      made = subst (λ (n : Held). IsMade m (counted n) c.clear.new.out T.Idle (flat_made (meaning m) h)) (sym c.self.view_is)
          (subst (λ (e : Events). IsMade m (counted m) e T.Idle (flat_made (meaning m) h)) (sym c.clear.ensures)
          (made-idle m h c.in-Halted.field-0 at));
      fits = subst (λ (n : Held). Fits (counted n)) (sym c.self.view_is) (fits-counted m c.requires.whole.fits);
    }

pub hear-requires : goal.hear-requires
hear-requires g c =
    let m = c.args.self.now in
    let h = c.args.hart in
    let at = sym (ap (λ (n : Held). (hart_among n.harts h).progress) c.self.view_is) ∙ sym c.progress.ensures ∙ c.in-Waiting.is in
    (assumption c, may-hear m h c.requires.whole G.Waiting at refl _ c.self.view_is)

pub wait_on-requires : goal.wait_on-requires
wait_on-requires g c =
    let m = c.args.self.now in
    let h = c.args.hart in
    let w = c.requires.whole in
    let at = sym (ap (λ (n : Held). (hart_among n.harts h).progress) c.self.view_is) ∙ sym c.progress.ensures ∙ c.in-Waiting.is in
    let is = c.hear.ensures.after ∙ ap (λ (n : Held). heard h (counted n)) c.self.view_is in (
      assumption c,
      (
        valid-now m h w G.Waiting at refl c.hear.new.self is,
        (
          acts-now m h w G.Waiting at refl c.hear.new.self is c.hear.ensures.all,
          (stands-now m h w G.Waiting at refl c.hear.new.self is, c.clear.ensures),
        ),
      ),
    )

pub returns-in-Waiting : goal.returns-in-Waiting
returns-in-Waiting g c =
    let m = c.args.self.now in
    let h = c.args.hart in
    let w = c.requires.whole in
    let at = sym (ap (λ (n : Held). (hart_among n.harts h).progress) c.self.view_is) ∙ sym c.progress.ensures ∙ c.in-Waiting.is in
    let is = c.hear.ensures.after ∙ ap (λ (n : Held). heard h (counted n)) c.self.view_is in
    record {
      made = made-now m h w G.Waiting at refl c.hear.new.self is c.wait_on.new.self c.wait_on.new.out c.wait_on.result
          (turn-waiting m h w.fits (hart-there m h w G.Waiting at refl) at) c.wait_on.ensures.made;
      fits = c.wait_on.ensures.fits;
    }

pub hear-requires-in-Running : goal.hear-requires-in-Running
hear-requires-in-Running g c =
    let m = c.args.self.now in
    let h = c.args.hart in
    let at = sym (ap (λ (n : Held). (hart_among n.harts h).progress) c.self.view_is) ∙ sym c.progress.ensures ∙ c.in-Running.is in
    (assumption c, may-hear m h c.requires.whole G.Running at refl _ c.self.view_is)

pub run-requires : goal.run-requires
run-requires g c =
    let m = c.args.self.now in
    let h = c.args.hart in
    let w = c.requires.whole in
    let hears = c.hear-in-Running in
    let at = sym (ap (λ (n : Held). (hart_among n.harts h).progress) c.self.view_is) ∙ sym c.progress.ensures ∙ c.in-Running.is in
    let is = hears.ensures.after ∙ ap (λ (n : Held). heard h (counted n)) c.self.view_is in (
      assumption c,
      (
        valid-now m h w G.Running at refl hears.new.self is,
        (
          record {
            act = acts-now m h w G.Running at refl hears.new.self is hears.ensures.all;
            runs =
                stands-now m h w G.Running at refl hears.new.self is;
          },
          c.clear.ensures,
        ),
      ),
    )

pub returns-in-Running : goal.returns-in-Running
returns-in-Running g c =
    let m = c.args.self.now in
    let h = c.args.hart in
    let w = c.requires.whole in
    let hears = c.hear-in-Running in
    let at = sym (ap (λ (n : Held). (hart_among n.harts h).progress) c.self.view_is) ∙ sym c.progress.ensures ∙ c.in-Running.is in
    let is = hears.ensures.after ∙ ap (λ (n : Held). heard h (counted n)) c.self.view_is in
    record {
      made = made-now m h w G.Running at refl hears.new.self is c.run.new.self c.run.new.out c.run.result
          (turn-running m h w.fits (hart-there m h w G.Running at refl) at) c.run.ensures.made;
      fits = c.run.ensures.fits;
    }

pub overflow_add-self : goal.overflow_add-self
overflow_add-self g c =
    record { fits = subst (λ (m : Held). m.steps + 1 < 2 ^ 64) (sym c.self.view_is) (omega (arith, c.requires.few)) }
