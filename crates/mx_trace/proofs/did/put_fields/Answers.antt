use Rattle.mx_trace.specs.Did.{deed}
use Rattle.mx_trace.proofs.DidLaws.{fields_before}
use Rattle.mx_trace.proofs.did.put_fields.Goals as goal

pub returns-clause-text : goal.returns-clause-text
returns-clause-text g c =
    fields_before (deed c.args.turned c.args.before.now c.args.after.now) c.args.line.now c.put_changes.ensures.text
    c.put_domain.ensures.text c.put_ran.ensures.text c.put_call.ensures.text c.put_note.ensures.text
