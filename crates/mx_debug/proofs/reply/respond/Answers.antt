use Rattle.std.proofs.Common.{false, Some, ap, subst, sym}
use Rattle.mx_any.specs.Machines.{meaning}
use Rattle.mx_packets.specs.declared.request.Request.{Request}
use Rattle.mx_debug.specs.Ended.{Replies}
use Rattle.mx_debug.specs.Replies.{Reply, go_back, reply}
use Rattle.mx_debug.specs.Session.{Session}
use Rattle.mx_debug.proofs.ReplyLaws.{still_is}
use Rattle.mx_debug.proofs.reply.respond.Goals as goal

pub returns-in-StepBack-clause-replies : goal.returns-in-StepBack-clause-replies
returns-in-StepBack-clause-replies g c = λ q is at.
    let s = c.args.session.now in
    let h = c.go_back.ensures.replies q is at in
    let machine = meaning c.go_back.new.machine in (
      h.0,
      subst (λ (r : Request). Replies g.L.Line.says g.L.Line.room q (reply q h.0 s r) c.go_back.new.session machine c.args.line.now
          c.go_back.new.line c.go_back.result) (sym c.in-StepBack.is)
          (subst (λ j. Replies g.L.Line.says g.L.Line.room q (go_back q h.0 s (Some j)) c.go_back.new.session machine c.args.line.now
          c.go_back.new.line c.go_back.result) (ap (λ (t : Session). t.followed) c.session.view_is) h.1),
    )

pub returns-in_default-clause-replies : goal.returns-in_default-clause-replies
returns-in_default-clause-replies g c = λ q is at.
    let s = c.args.session.now in
    let h = c.in_default in
    let still = still_is q false s c.args.request (record {
      go = h.not-Go;
      step = λ thread e. h.not-Step thread e;
      range = λ thread first end e. h.not-Range thread first end e;
      step_back = h.not-StepBack;
      go_back = h.not-GoBack;
      after = λ n e. h.not-After n e;
      leave = h.not-Leave;
      kill = h.not-Kill;
    }) in (
      false,
      subst (λ (r : Reply). Replies g.L.Line.says g.L.Line.room q r c.stand.new.session (meaning c.args.machine.now) c.args.line.now
          c.stand.new.line c.stand.result) (sym still) (c.stand.ensures.replies q is at),
    )
