use Rattle.std.proofs.Common.{◌≡◌, ℕ, ◌<◌, ◌%◌, false, List, length, Some, refl, sym, ap, subst, ◌∙◌}
use Rattle.mx_table.specs.Tables.{IsDomain}
use Rattle.mx_check.specs.Conditions.{IsAtHand, MayLook}
use Rattle.mx_check.specs.Harts.{kept_at}
use Rattle.mx_core.specs.Bus.{load_at}
use Rattle.mx_core.specs.Memo.{quick}
use Rattle.mx_model.specs.Effect.{effect}
use Rattle.mx_supervisor.specs.Parts.{IsSound, parts_of}
use Rattle.mx_machine.specs.declared.hart.Hart.{Hart}
use Rattle.mx_machine.specs.Actions.{after_unfetched, effect_for, outcome_for}
use Rattle.mx_machine.specs.Harts.{hart_among}
use Rattle.mx_machine.specs.Held.{Held}
use Rattle.mx_machine.specs.Windows.{IsOpen}
use Rattle.mx_machine.proofs.MadeLaws.{may-look}
use Rattle.mx_machine.proofs.RowLaws.{open-runs}
use Rattle.mx_machine.proofs.WindowLaws.{hand-inside}
use Rattle.mx_machine.proofs.ViewLaws.{held_of}
use Rattle.mx_machine.proofs.bare.Bare.quick.Goals as goal

pub word-word-requires : goal.word-word-requires
word-word-requires g c =
    let p = g.T.PermTables in
    let m = c.args.self.now in
    let h = c.args.hart in
    let f = c.requires.fits in
    let r = c.requires.alive in
    let pc-is : c.pc-pc.result ≡ (hart_among m.harts h).pc = c.pc-pc.ensures
    ∙ ap (λ (k : Held). (hart_among k.harts h).pc) c.self.view_is in
    let at-pc : IsOpen m h c.pc-pc.result = c.requires.window.each c.pc-pc.result (sym c.if-not-holds.ensures) in (
      assumption c,
      (
        f.sound.ram,
        (
          hand-inside m.parts.size c.pc-pc.result (kept_at m.parts.harts h).cache at-pc.at_hand,
          rw pc-is
              c.requires.aligned,
        ),
      ),
    )

pub carry_out-requires : goal.carry_out-requires
carry_out-requires g c =
    let p = g.T.PermTables in
    let m = c.args.self.now in
    let h = c.args.hart in
    let f = c.requires.fits in
    let r = c.requires.alive in
    let pc-is : c.pc-pc.result ≡ (hart_among m.harts h).pc = c.pc-pc.ensures
    ∙ ap (λ (k : Held). (hart_among k.harts h).pc) c.self.view_is in
    let at-pc : IsOpen m h c.pc-pc.result = c.requires.window.each c.pc-pc.result (sym c.if-not-holds.ensures) in
    let o : IsOpen m h (hart_among m.harts h).pc = subst (λ (a : ℕ). IsOpen m h a) pc-is at-pc in
    let inside = c.self.inside in
    let v : Held = record {
      parts = parts_of p inside.bus.supervisor;
      harts = inside.harts;
      stacks = inside.stacks;
      dead = inside.dead;
      steps = inside.steps;
      waiting = inside.waiting;
    } in
    let n : Held = record v { harts = c.inst.new.self } in
    let is : n ≡ m = ap (λ (hs : List Hart). record v { harts = hs }) c.inst.ensures.same ∙ c.self.view_is in
    let inst = c.in-Some.inst in
    let known : quick (load_at m.parts.ram c.pc-pc.result 4) ≡ Some inst = sym (ap quick c.word-word.ensures)
    ∙ sym c.in-Some.ensures.inst in
    let there : quick (load_at m.parts.ram (hart_among m.harts h).pc 4) ≡ Some inst =
    sym (ap (λ (a : ℕ). quick (load_at m.parts.ram a 4)) pc-is) ∙ known in
    let run = open-runs m h f r c.requires.domain o.quiet in (
      assumption c,
      (
        subst (λ (k : Held). IsSound k.parts) (sym is) f.sound,
        (
          subst (λ (k : Held). h < length k.harts) (sym is) r.there,
          (
            subst (λ (k : Held). MayLook h (hart_among k.harts h).domain k.parts.harts) (sym is) (may-look m h run),
            (
              subst (λ (k : Held). IsDomain k.parts.maps (hart_among k.harts h).domain) (sym is) c.requires.domain,
              (
                subst (λ (k : Held). (hart_among k.harts h).pc % 4 ≡ 0) (sym is) c.requires.aligned,
                (
                  subst (λ (k : Held). IsAtHand k.parts.size (kept_at k.parts.harts h).cache (hart_among k.harts h).pc) (sym is) o.at_hand,
                  (
                    subst (λ (k : Held). quick (load_at k.parts.ram (hart_among k.harts h).pc 4) ≡ Some inst) (sym is)
                        there,
                    c.in-Some.ensures.valid,
                  ),
                ),
              ),
            ),
          ),
        ),
      ),
    )

pub returns-in-Some : goal.returns-in-Some
returns-in-Some g c =
    let p = g.T.PermTables in
    let m = c.args.self.now in
    let h = c.args.hart in
    let f = c.requires.fits in
    let r = c.requires.alive in
    let pc-is : c.pc-pc.result ≡ (hart_among m.harts h).pc = c.pc-pc.ensures
    ∙ ap (λ (k : Held). (hart_among k.harts h).pc) c.self.view_is in
    let at-pc : IsOpen m h c.pc-pc.result = c.requires.window.each c.pc-pc.result (sym c.if-not-holds.ensures) in
    let o : IsOpen m h (hart_among m.harts h).pc = subst (λ (a : ℕ). IsOpen m h a) pc-is at-pc in
    let inside = c.self.inside in
    let v : Held = record {
      parts = parts_of p inside.bus.supervisor;
      harts = inside.harts;
      stacks = inside.stacks;
      dead = inside.dead;
      steps = inside.steps;
      waiting = inside.waiting;
    } in
    let n : Held = record v { harts = c.inst.new.self } in
    let is : n ≡ m = ap (λ (hs : List Hart). record v { harts = hs }) c.inst.ensures.same ∙ c.self.view_is in
    let inst = c.in-Some.inst in
    let known : quick (load_at m.parts.ram c.pc-pc.result 4) ≡ Some inst = sym (ap quick c.word-word.ensures)
    ∙ sym c.in-Some.ensures.inst in
    let there : quick (load_at m.parts.ram (hart_among m.harts h).pc 4) ≡ Some inst =
    sym (ap (λ (a : ℕ). quick (load_at m.parts.ram a 4)) pc-is) ∙ known in
    let e = c.carry_out.ensures in
    record {
      opened = o;
      inst = inst;
      known = there;
      effect = subst (λ (k : Held). effect_for k (hart_among k.harts h) ≡ effect inst (hart_among k.harts h).regs (hart_among k.harts h).pc)
          is e.effect;
      answered = e.outcome ∙ ap (λ (k : Held). outcome_for k h false) is;
      after = e.after ∙ ap (λ (k : Held). after_unfetched h k) is;
      caused = e.cause;
    }

pub pc-pc-requires : goal.pc-pc-requires
pc-pc-requires g c = subst (λ (m : Held). c.args.hart < length m.harts) (sym c.self.view_is) c.requires.alive.there

pub holds-requires : goal.holds-requires
holds-requires g c = c.requires.window.bound

pub returns-then-not-holds : goal.returns-then-not-holds
returns-then-not-holds g c = refl

pub returns-in-None : goal.returns-in-None
returns-in-None g c =
    ap (λ (hs : List Hart). held_of g.T.PermTables (record c.self.inside { harts = hs })) c.inst.ensures.same
    ∙ c.self.view_is
