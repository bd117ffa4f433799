use Rattle.std.proofs.Common.{◌<◌, None, Some, ap, arith, if◌then◌else◌, sym, ◌∙◌, ◌≡◌, false, refl}
use Rattle.mx_any.specs.Machines.{meaning}
use Rattle.mx_model.specs.Run.{all_halted}
use Rattle.mx_debug.specs.Session.{next_at}
use Rattle.mx_debug.proofs.ForwardLaws.{is_next}
use Rattle.mx_debug.proofs.still.next_of.Goals as goal

pub returns-in-Some : goal.returns-in-Some
returns-in-Some c = λ q is at.
    let m = meaning c.args.machine.now in
    let k = c.args.made in
    let h = c.in-Some.hart in
    let pace = c.begin-pace.ensures m.core (sym c.steps.ensures) (sym c.harts.ensures) in
    let row = c.in-Some.ensures.named q.schedule m.core (rw is.schedule pace) in
    let name = row.each 0 (let some = row.some in omega (arith, some)) m.core (omega arith) refl in
    let few : k < q.most = (let a = c.if-made-course.false in let b = is.most in omega (arith, a, b)) in
    let going : all_halted m.core ≡ false = (let a = c.all_halted.ensures in let b = c.if-all_halted.false in cc (a, b)) in
    let next = is_next q k h m at few going name in
    sym (ap (λ b. if b then None else Some (next_at q k)) next.going ∙ ap Some next.hart)
