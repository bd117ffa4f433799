use Rattle.std.proofs.Common.{sym}
use Rattle.mx_debug.proofs.ReplyLaws.{run_by}
use Rattle.mx_debug.proofs.reply.resume.Goals as goal

pub returns-clause-finds : goal.returns-clause-finds
returns-clause-finds g c = λ q is. rw (sym c.session.view_is) (λ at.
    rw c.as_slice.ensures.value at (c.forward.ensures.finds q (run_by q c.args.course.now is) at))
