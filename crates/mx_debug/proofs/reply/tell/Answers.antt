use Rattle.std.proofs.Common.{ℕ, List, ◌++◌, refl, ap, subst, sym, ◌∙◌}
use Rattle.mx_any.specs.Machines.{meaning}
use Rattle.mx_debug_texts.specs.Documents.{known_by}
use Rattle.mx_packets.specs.Frames.{cut}
use Rattle.mx_packets.specs.Lines.{Fails, Speaks}
use Rattle.mx_packets.specs.Streams.{sent}
use Rattle.mx_packets.proofs.LineLaws.{fails_before, fails_behind, speaks_more}
use Rattle.mx_debug.specs.Replies.{noted_said}
use Rattle.mx_debug.specs.Session.{Session}
use Rattle.mx_debug.specs.Texts.{stop_text}
use Rattle.mx_debug.proofs.ReplyLaws.{noted_is}
use Rattle.mx_debug.proofs.reply.tell.Goals as goal

pub returns-in-Ok-say_answer-clause-replies : goal.returns-in-Ok-say_answer-clause-replies
returns-in-Ok-say_answer-clause-replies g c = λ q is at.
    let s = c.args.session.now in
    let found = c.args.found in
    let noted = noted_is q found (meaning c.args.machine.now) (known_by c.named.result) at (c.named.ensures ∙ sym is.known) in
    let text = c.put_stop.ensures ∙ ap (λ (x : List ℕ). cut (x ++ stop_text c.session.inside.shown found.1)) c.new-answer.ensures
    ∙ ap (λ h. cut (stop_text h found.1)) (ap (λ (t : Session). t.shown) c.session.view_is) in
    record {
      session = c.stand_at.ensures;
      leaves = refl;
      place = at;
      said = speaks_more g.L.Line.says g.L.Line.room c.args.line.now c.say_noted.new.line c.say_answer.new.line (noted_said q found)
          (sent (cut (stop_text s.shown found.1)))
          (subst (λ (x : List ℕ). Speaks g.L.Line.says g.L.Line.room c.args.line.now x c.say_noted.new.line) noted c.in-Ok.ensures)
          (subst (λ (x : List ℕ). Speaks g.L.Line.says g.L.Line.room c.say_noted.new.line (sent x) c.say_answer.new.line) text
          c.in-Ok-say_answer.ensures);
    }

pub returns-in-Err-say_answer-clause-replies : goal.returns-in-Err-say_answer-clause-replies
returns-in-Err-say_answer-clause-replies g c = λ q is at.
    let s = c.args.session.now in
    let found = c.args.found in
    let noted = noted_is q found (meaning c.args.machine.now) (known_by c.named.result) at (c.named.ensures ∙ sym is.known) in
    let text = c.put_stop.ensures ∙ ap (λ (x : List ℕ). cut (x ++ stop_text c.session.inside.shown found.1)) c.new-answer.ensures
    ∙ ap (λ h. cut (stop_text h found.1)) (ap (λ (t : Session). t.shown) c.session.view_is) in
    fails_behind g.L.Line.says g.L.Line.room c.args.line.now c.say_noted.new.line c.say_answer.new.line (noted_said q found)
    (sent (cut (stop_text s.shown found.1)))
    (subst (λ (x : List ℕ). Speaks g.L.Line.says g.L.Line.room c.args.line.now x c.say_noted.new.line) noted c.in-Ok.ensures)
    (subst (λ (x : List ℕ). Fails g.L.Line.says g.L.Line.room c.say_noted.new.line (sent x) c.say_answer.new.line) text
    c.in-Err-say_answer.ensures)

pub returns-in-Err-clause-replies : goal.returns-in-Err-clause-replies
returns-in-Err-clause-replies g c = λ q is at.
    let s = c.args.session.now in
    let found = c.args.found in
    let noted = noted_is q found (meaning c.args.machine.now) (known_by c.named.result) at (c.named.ensures ∙ sym is.known) in
    fails_before g.L.Line.says g.L.Line.room c.args.line.now c.say_noted.new.line (noted_said q found)
    (sent (cut (stop_text s.shown found.1)))
    (subst (λ (x : List ℕ). Fails g.L.Line.says g.L.Line.room c.args.line.now x c.say_noted.new.line) noted c.in-Err.ensures)
