use Rattle.std.proofs.Common.{ℕ, ◌++◌, false, subst}
use Rattle.mx_any.specs.Machines.{meaning}
use Rattle.mx_debug.specs.declared.stop.Stop.{Stop}
use Rattle.mx_debug.specs.Ended.{Replies}
use Rattle.mx_debug.specs.Looks.{shows_to}
use Rattle.mx_debug.specs.Replies.{settled}
use Rattle.mx_debug.specs.Session.{asked_of, found_of}
use Rattle.mx_packets.proofs.LineLaws.{fails_before}
use Rattle.mx_debug.proofs.ReplyLaws.{past_is}
use Rattle.mx_debug.proofs.TalkLaws.{replies_behind}
use Rattle.mx_debug.proofs.reply.go_on.Goals as goal

pub returns-in-Ok-clause-replies : goal.returns-in-Ok-clause-replies
returns-in-Ok-clause-replies g c = λ q is at.
    let s = c.args.session.now in
    let to = found_of q s c.args.step in
    let f = c.in-Ok.ensures.finds q is at in
    let found = c.in-Ok.found in
    let machine = meaning c.settle.new.machine in
    let h = c.settle.ensures.replies q is f.place (λ e. past_is q (asked_of s c.args.step) found.made found.stop to f.first (f.past e)) in (
      h.0,
      subst (λ (t : ℕ × Stop). Replies g.L.Line.says g.L.Line.room q
          (record {
            said = shows_to q s.told s.made to ++ (settled q h.0 s t).said;
            session = (settled q h.0 s t).session;
            leaves =
                (settled q h.0 s t).leaves;
          }) c.settle.new.session machine c.args.line.now c.settle.new.line c.settle.result) f.first
          (replies_behind g.L.Line.says g.L.Line.room q c.args.line.now c.resume.new.line c.settle.new.line (shows_to q s.told s.made to)
          (settled q h.0 s (found.made, found.stop)) c.settle.new.session machine c.settle.result f.said h.1),
    )

pub returns-in-Err-clause-replies : goal.returns-in-Err-clause-replies
returns-in-Err-clause-replies g c = λ q is at.
    let s = c.args.session.now in
    let to = found_of q s c.args.step in (
      false,
      fails_before g.L.Line.says g.L.Line.room c.args.line.now c.resume.new.line (shows_to q s.told s.made to)
          (settled q false s to).said (c.in-Err.ensures.finds q is at),
    )
