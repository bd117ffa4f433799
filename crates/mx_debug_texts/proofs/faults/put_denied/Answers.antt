use Rattle.std.proofs.Common.{◌≡◌, true, false, [], ◌++◌, codes, if◌then◌else◌, ap, sym, ◌∙◌}
use Rattle.mx_any.specs.Machines.{meaning}
use Rattle.mx_debug_texts.specs.Documents.{denied_text, is_denial, who_text}
use Rattle.mx_debug_texts.specs.Window.{further}
use Rattle.mx_debug_texts.proofs.WindowLaws.{further_none, puts_more}
use Rattle.mx_debug_texts.proofs.faults.put_denied.Goals as goal

pub returns-then-is_denial : goal.returns-then-is_denial
returns-then-is_denial c =
    let f = meaning c.args.machine.now in
    let fault = c.args.fault.now in
    let who = who_text f c.args.plan.now fault.value in
    let is : is_denial fault.cause ≡ true = sym c.is_denial.ensures ∙ c.if-is_denial.true in
    puts_more c.args.window.now c.put.new.self c.put_who.new.window (codes ": ") who (denied_text f c.args.plan.now fault) c.put.ensures
    c.put_who.ensures
    (ap (λ b. if b then codes ": " ++ who else []) is)

pub returns-else-is_denial : goal.returns-else-is_denial
returns-else-is_denial c =
    let w = c.args.window.now in
    let fault = c.args.fault.now in
    let who = who_text (meaning c.args.machine.now) c.args.plan.now fault.value in
    let is : is_denial fault.cause ≡ false = sym c.is_denial.ensures ∙ c.if-is_denial.false in
    further_none w ∙ sym (ap (λ b. further w (if b then codes ": " ++ who else [])) is)
