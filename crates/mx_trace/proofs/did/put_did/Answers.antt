use Rattle.std.proofs.Common.{◌++◌, codes, ap, sym, ◌∙◌}
use Rattle.mx_tail.proofs.PassLaws.{passes_same, passes_adds}
use Rattle.mx_trace.specs.Did.{deed, fields}
use Rattle.mx_trace.proofs.DidLaws.{line_none, line_some}
use Rattle.mx_trace.proofs.did.put_did.Goals as goal

pub returns-then-len-eq1-clause-passes : goal.returns-then-len-eq1-clause-passes
returns-then-len-eq1-clause-passes g c =
    let end = c.put_text.ensures ∙ ap (λ xs. codes "\n" ++ xs) c.new-line.ensures in
    let line = c.put_fields.ensures.text ∙ ap (λ xs. fields (deed c.args.turned c.args.before.now c.args.after.now) ++ xs) end in
    passes_same (sym (line_none (fields (deed c.args.turned c.args.before.now c.args.after.now)) line (sym c.len.ensures
    ∙ c.if-len-eq1.true))) (passes_adds c.put.ensures.adds)

pub returns-clause-passes : goal.returns-clause-passes
returns-clause-passes g c =
    let end = c.put_text.ensures ∙ ap (λ xs. codes "\n" ++ xs) c.new-line.ensures in
    let line = c.put_fields.ensures.text ∙ ap (λ xs. fields (deed c.args.turned c.args.before.now c.args.after.now) ++ xs) end in
    passes_same (c.as_slice.ensures ∙ c.put_text-2.ensures ∙ line_some (fields (deed c.args.turned c.args.before.now c.args.after.now)) line
    (λ e. c.if-len-eq1.false (c.len.ensures ∙ e))) (passes_adds c.put-2.ensures.adds)
