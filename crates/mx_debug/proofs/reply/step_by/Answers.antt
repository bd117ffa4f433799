use Rattle.std.proofs.Common.{◌≡◌, ℕ, Option, Some, ap, subst, sym, ◌∙◌}
use Rattle.mx_any.specs.Machines.{meaning}
use Rattle.mx_model.specs.State.{Core, Flat}
use Rattle.mx_debug.specs.Ended.{Replies}
use Rattle.mx_debug.specs.Replies.{step_of, thread_hart}
use Rattle.mx_debug.specs.Session.{Session, state_at}
use Rattle.mx_debug.proofs.reply.step_by.Goals as goal

pub returns-in-Some-clause-replies : goal.returns-in-Some-clause-replies
returns-in-Some-clause-replies g c = λ q is at.
    let s = c.args.session.now in
    let thread = c.args.thread in
    let eq : thread_hart (state_at q s.made).core s.followed thread ≡ Some c.in-Some.hart =
    (ap (λ (d : Core). thread_hart d s.followed thread) (sym (ap (λ (f : Flat). f.core) at))
    ∙ ap (λ h. thread_hart (meaning c.args.machine.now).core h thread) (sym (ap (λ (t : Session). t.followed) c.session.view_is))
    ∙ sym c.thread_hart.ensures ∙ c.in-Some.is) in
    let h = c.go_on.ensures.replies q is at in (
      h.0,
      subst (λ (o : Option ℕ). Replies g.L.Line.says g.L.Line.room q (step_of q h.0 s o c.args.first c.args.end) c.go_on.new.session
          (meaning c.go_on.new.machine) c.args.line.now c.go_on.new.line c.go_on.result) (sym eq) h.1,
    )
