use Rattle.std.proofs.Common.{◌≡◌, ℕ, ◌+◌, ◌-◌, ◌<◌, ◌≤◌, Option, refl, sym, ap, subst, ◌∙◌, arith}
use Rattle.mx_any.specs.Machines.{meaning}
use Rattle.mx_machine.specs.Turning.{turns_of}
use Rattle.mx_turns.specs.Running.{IsNamed, schedule_of}
use Rattle.mx_turns.proofs.RunTexts.{later_all, later_turn}
use Rattle.mx_debug.specs.Back.{row_back, sought_by}
use Rattle.mx_debug.specs.Back.{last_stop as last_stop_from}
use Rattle.mx_debug.proofs.BackLaws.{nothing_behind, row_below, row_last, stopped_halted, stopped_over}
use Rattle.mx_debug.proofs.ForwardLaws.{stretch_place}
use Rattle.mx_debug.proofs.back.last_stop.Goals as goal

pub returns-then-all_halted-clause-finds : goal.returns-then-all_halted-clause-finds
returns-then-all_halted-clause-finds c = λ q is at.
    let m = meaning c.turns.machine in
    let inv = c.turns.invariant in
    inv.last q is at ∙ sym (nothing_behind q (sought_by c.args.seeking.now) c.args.from c.turns.made c.args.before inv.from inv.within
    (stopped_halted q c.turns.made m (inv.place q is at) (sym c.if-all_halted.ensures)))

pub returns-in_default-clause-finds : goal.returns-in_default-clause-finds
returns-in_default-clause-finds c = λ q is at.
    let m = meaning c.turns.machine in
    let inv = c.turns.invariant in
    let over = subst (λ (o : Option (ℕ × ℕ)). IsNamed q.schedule m.core (c.args.before - c.turns.made) o) c.in_default.is
    (c.next_hart.ensures.named q.schedule m.core (rw is.schedule inv.pace)) in
    inv.last q is at ∙ sym (nothing_behind q (sought_by c.args.seeking.now) c.args.from c.turns.made c.args.before inv.from inv.within
    (stopped_over q c.turns.made m (inv.place q is at) over))

pub returns-clause-finds : goal.returns-clause-finds
returns-clause-finds c = λ q is at.
    let inv = c.turns.invariant in
    let all : c.turns.made ≡ c.args.before = (let w = inv.within in omega (arith, w, c.turns-test.false)) in
    inv.last q is at ∙ ap (λ j. last_stop_from q (sought_by c.args.seeking.now) c.args.from (j - c.args.from)) all

pub turns-preserved : goal.turns-preserved
turns-preserved c =
    let m = meaning c.turns.machine in
    let h = c.in-Some.hart in
    let n = c.run_on-stretch.result.ran in
    let new = meaning c.run_on-stretch.new.machine in
    let inv = c.turns.invariant in
    let a = sought_by c.args.seeking.now in
    let k = c.turns.made in
    let here = c.in-Some.ensures.named (schedule_of c.args.seeking.now.schedule) m.core inv.pace in
    let later = later_turn m (turns_of h m n) new n (n + 1) h (later_all h m n) c.run_on-stretch.ensures.turn refl in
    let few = c.run_on-stretch.ensures.few in
    let upto = c.row_of-row.ensures.few in
    record {
      from = let x = inv.from in omega (arith, x);
      within = let x = here.few in omega (arith, x, few, upto, c.turns-test.true);
      turns = let x = inv.turns in let b = later.turns in omega (arith, x, b);
      pace = c.later-pace.ensures (schedule_of c.args.seeking.now.schedule) m.core inv.pace new.core later.turns later.harts;
      place = λ q is at.
          let going = sym c.if-all_halted.ensures in
          let row = c.in-Some.ensures.named q.schedule m.core (rw is.schedule inv.pace) in
          stretch_place q m k (k + (n + 1)) (inv.place q is at) going h (c.args.before - k) c.in-Some.row row c.row_of-row.result upto new
          c.run_on-stretch.new.out c.run_on-stretch.result c.run_on-stretch.ensures (omega arith);
      last = λ q is at.
          let going = sym c.if-all_halted.ensures in
          let row = c.in-Some.ensures.named q.schedule m.core (rw is.schedule inv.pace) in
          let fits : k + c.in-Some.row ≤ q.most = (let x = row.few in let b = c.requires.within in let all = is.most in
          omega (arith, x, b, all, c.turns-test.true)) in
          let less : n < c.in-Some.row = omega (arith, few, upto) in
          c.later_stop-last.ensures
          ∙ ap (row_back a.hart h k c.last_stood-stood.result n c.run_on-stretch.result.last c.run_on-stretch.new.out.note)
          (inv.last q is at)
          ∙ sym (row_last q a m k (inv.place q is at) going h (c.args.before - k) c.in-Some.row row fits c.args.from n inv.from less
          c.run_on-stretch.ensures.ran
          c.run_on-stretch.result.last c.run_on-stretch.new.out.note c.run_on-stretch.ensures.kind c.run_on-stretch.ensures.told.note
          c.stands_at-stands.result c.last_stood-stood.result c.stands_at-stands.ensures c.last_stood-stood.ensures
          (λ many. c.row_of-row.ensures.free (omega (arith, many, few))));
      below = rw c.later_stop-last.ensures (row_below a.hart h k c.last_stood-stood.result n c.run_on-stretch.result.last
          c.run_on-stretch.new.out.note c.turns.last inv.below);
    }
