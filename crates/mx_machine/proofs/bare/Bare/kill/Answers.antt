use Rattle.std.proofs.Common.{◌≡◌, ◌==◌, ◌<◌, true, false, length, refl, ap, sym, subst, ◌∙◌, eq-eqb}
use Rattle.std.proofs.lemmas.Bool.{ne_eqb}
use Rattle.mx_machine.specs.declared.starts.StackArea.{StackArea}
use Rattle.mx_machine.specs.Held.{Held, area_of}
use Rattle.mx_machine.proofs.bare.Bare.kill.Goals as goal
use Rattle.mx_machine.proofs.bare.Bare.kill.Goals.{else-area-via-then-area+else-cause-ne-DEAD, else-area-via-else-area}

pub returns-else-area : goal.returns-else-area
returns-else-area g c = elim c.else-area.branch [
  | else-area-via-then-area+else-cause-ne-DEAD w ↦
      let k : (area_of c.self.inside.stacks c.args.domain).kills ≡ true = ap (λ (a : StackArea). a.kills) (sym c.area.ensures)
      ∙ w.if-area.true in
      let e : (c.args.cause == 20) ≡ true = eq-eqb c.args.cause 20 w.if-cause-ne-DEAD.false in
      rw (← c.self.view_is) (rw (k, e) refl)
  | else-area-via-else-area w ↦
      let k : (area_of c.self.inside.stacks c.args.domain).kills ≡ false = ap (λ (a : StackArea). a.kills) (sym c.area.ensures)
      ∙ w.if-area.false in
      rw (← c.self.view_is) (rw k refl)
]

pub returns-then-cause-ne-DEAD : goal.returns-then-cause-ne-DEAD
returns-then-cause-ne-DEAD g c =
    let k : (area_of c.self.inside.stacks c.args.domain).kills ≡ true =
    ap (λ (a : StackArea). a.kills) (sym c.area.ensures) ∙ c.if-area.true in
    let e : (c.args.cause == 20) ≡ false = ne_eqb c.args.cause 20 c.if-cause-ne-DEAD.true in
    rw (← c.self.view_is) (rw (k, e) refl)

pub bounds-self-inside-domain : goal.bounds-self-inside-domain
bounds-self-inside-domain g c =
    subst (λ n. c.args.domain < n) c.self.told
    (subst (λ (m : Held). c.args.domain < length m.dead) (sym c.self.view_is) c.requires.few)

pub area-requires : goal.area-requires
area-requires g c = c.requires.domain
