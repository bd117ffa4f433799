use Rattle.std.proofs.Common.{ℕ, ◌+◌, ◌-◌, ◌≤◌, Option, refl, ap, sym, subst, ◌∙◌, inl, inr, arith}
use Rattle.mx_any.specs.Machines.{meaning}
use Rattle.mx_model.specs.State.{flat}
use Rattle.mx_turns.specs.Running.{IsNamed, schedule_of}
use Rattle.mx_turns.proofs.RunTexts.{later_all, later_turn, run_over}
use Rattle.mx_machine.specs.Turning.{turns_of}
use Rattle.mx_debug.proofs.ForwardLaws.{stretch_place}
use Rattle.mx_debug.proofs.again.run_on_by.Goals as goal

pub returns-then-all_halted-clause-at : goal.returns-then-all_halted-clause-at
returns-then-all_halted-clause-at c = λ q k is at.
    let m = meaning c.turns.machine in
    let place = c.turns.invariant.place q k is at in
    place ∙ ap flat (sym (run_over q.schedule q.start k c.args.turns c.turns.made m place c.turns.invariant.within
    (inr (inl (sym c.if-all_halted.ensures)))))

pub returns-in_default-clause-at : goal.returns-in_default-clause-at
returns-in_default-clause-at c = λ q k is at.
    let m = meaning c.turns.machine in
    let place = c.turns.invariant.place q k is at in
    let over = subst (λ (o : Option (ℕ × ℕ)). IsNamed q.schedule m.core (c.args.turns - c.turns.made) o) c.in_default.is
    (c.next_hart.ensures.named q.schedule m.core (rw is c.turns.invariant.pace)) in
    place ∙ ap flat (sym (run_over q.schedule q.start k c.args.turns c.turns.made m place c.turns.invariant.within (inr (inr over))))

pub turns-preserved : goal.turns-preserved
turns-preserved c =
    let m = meaning c.turns.machine in
    let h = c.in-Some.hart in
    let n = c.run_on-stretch.result.ran in
    let new = meaning c.run_on-stretch.new.machine in
    let inv = c.turns.invariant in
    let here = c.in-Some.ensures.named (schedule_of c.args.schedule) m.core inv.pace in
    let later = later_turn m (turns_of h m n) new n (n + 1) h (later_all h m n) c.run_on-stretch.ensures.turn refl in
    let few = c.run_on-stretch.ensures.few in
    record {
      within = let a = here.few in omega (arith, a, few, c.turns-test.true);
      count = let a = inv.count in let b = later.turns in omega (arith, a, b);
      pace = c.later-pace.ensures (schedule_of c.args.schedule) m.core inv.pace new.core later.turns later.harts;
      place = λ q k is at.
          let row = c.in-Some.ensures.named q.schedule m.core (rw is inv.pace) in
          stretch_place q m (k + c.turns.made) (k + (c.turns.made + (n + 1))) (inv.place q k is at) (sym c.if-all_halted.ensures) h
          (c.args.turns - c.turns.made) c.in-Some.row row c.in-Some.row (omega arith) new c.run_on-stretch.new.out
          c.run_on-stretch.result c.run_on-stretch.ensures (omega arith);
    }
