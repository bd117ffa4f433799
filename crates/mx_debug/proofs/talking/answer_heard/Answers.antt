use Rattle.std.proofs.Common.{subst, sym}
use Rattle.mx_any.specs.Machines.{meaning}
use Rattle.mx_packets.specs.declared.receiver.Heard.{Heard}
use Rattle.mx_packets.specs.declared.request.Request.{Request}
use Rattle.mx_packets.specs.Requests.{request_of}
use Rattle.mx_debug.specs.Ended.{Replies}
use Rattle.mx_debug.specs.Replies.{reply}
use Rattle.mx_debug.specs.Talks.{mark, reply_to}
use Rattle.mx_debug.proofs.TalkLaws.{replies_behind}
use Rattle.mx_debug.proofs.talking.answer_heard.Goals as goal

pub returns-in-Ok-acknowledge-clause-replies : goal.returns-in-Ok-acknowledge-clause-replies
returns-in-Ok-acknowledge-clause-replies g c = λ q is at.
    let s = c.args.session.now in
    let machine = meaning c.respond.new.machine in
    let packet = c.args.packet.now in
    let mid = c.acknowledge-in-Packet.new.line in
    let h = c.respond.ensures.replies q is at in
    let w = h.0 in (
      w,
      subst (λ (h : Heard). Replies g.L.Line.says g.L.Line.room q (reply_to q w s packet h) c.respond.new.session machine c.args.line.now
          c.respond.new.line c.respond.result) (sym c.in-Packet.is)
          (replies_behind g.L.Line.says g.L.Line.room q c.args.line.now mid c.respond.new.line (mark s 43) (reply q w s (request_of packet))
          c.respond.new.session machine c.respond.result c.in-Ok-acknowledge.ensures
          (subst (λ (r : Request). Replies g.L.Line.says g.L.Line.room q (reply q w s r) c.respond.new.session machine mid
          c.respond.new.line c.respond.result) c.request_of.ensures h.1)),
    )
