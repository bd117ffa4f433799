use Rattle.std.proofs.Common.{refl}
use Rattle.mx_any.specs.Machines.{meaning}
use Rattle.mx_report.specs.Lines.{note_line}
use Rattle.mx_debug_texts.specs.Documents.{noted_text, reason_text}
use Rattle.mx_debug_texts.proofs.WindowLaws.{puts_more}
use Rattle.mx_debug_texts.proofs.faults.put_noted.Goals as goal

pub returns : goal.returns
returns c =
    let note = c.args.note.now in
    let f = meaning c.args.machine.now in
    let plan = c.args.plan.now in
    puts_more c.args.window.now c.put_line.new.window c.put_reason.new.window (note_line note) (reason_text f plan note)
    (noted_text f plan note) c.put_line.ensures c.put_reason.ensures refl
