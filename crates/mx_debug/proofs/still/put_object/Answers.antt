use Rattle.std.proofs.Common.{◌≡◌, ◌++◌, subst, sym}
use Rattle.mx_any.specs.Machines.{meaning}
use Rattle.mx_packets.specs.declared.request.Object.{Object}
use Rattle.mx_packets.specs.Frames.{cut}
use Rattle.mx_debug_texts.specs.Documents.{known_by}
use Rattle.mx_debug.specs.Replies.{object_text}
use Rattle.mx_debug.specs.Texts.{window_text}
use Rattle.mx_debug.proofs.still.put_object.Goals as goal

pub returns-in-Libraries : goal.returns-in-Libraries
returns-in-Libraries c =
    subst (λ (o : Object). c.put_part-in-Libraries.new.answer
    ≡ cut (c.args.answer.now ++ window_text (object_text (record {
      flat = meaning c.args.machine.now;
      known = known_by c.args.named.now;
      next = c.args.next;
    }) o) c.args.at c.args.count)) (sym c.in-Libraries.is)
    c.put_part-in-Libraries.ensures

pub returns-in-Memory : goal.returns-in-Memory
returns-in-Memory c =
    subst (λ (o : Object). c.put_part-in-Memory.new.answer
    ≡ cut (c.args.answer.now ++ window_text (object_text (record {
      flat = meaning c.args.machine.now;
      known = known_by c.args.named.now;
      next = c.args.next;
    }) o) c.args.at c.args.count)) (sym c.in-Memory.is)
    c.put_part-in-Memory.ensures
