use Rattle.std.proofs.Common.{ℕ, false, subst, sym}
use Rattle.mx_any.specs.declared.any.AnyMachine.{AnyMachine}
use Rattle.mx_any.specs.Machines.{meaning}
use Rattle.mx_debug.specs.declared.stop.Stop.{Stop}
use Rattle.mx_debug.specs.Ended.{Replies}
use Rattle.mx_debug.specs.Looks.{IsAt}
use Rattle.mx_debug.specs.Replies.{stands_at}
use Rattle.mx_debug.proofs.reply.go_back.Goals as goal

pub returns-in-Ok-clause-replies : goal.returns-in-Ok-clause-replies
returns-in-Ok-clause-replies g c = λ q is at.
    let e = c.in-Ok.ensures.finds q is in
    let place = subst (λ (m : AnyMachine). IsAt q c.in-Ok.back.found.0 (meaning m)) (sym c.replace-before.ensures.after) e.1 in (
      false,
      subst (λ (t : ℕ × Stop). Replies g.L.Line.says g.L.Line.room q (stands_at q c.args.session.now t) c.tell.new.session
          (meaning c.replace-before.new.dest) c.args.line.now c.tell.new.line c.tell.result) e.0
          (c.tell.ensures.replies q is place),
    )
