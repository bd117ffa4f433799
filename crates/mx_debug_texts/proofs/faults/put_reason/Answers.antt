use Rattle.std.proofs.Common.{◌++◌, codes, refl}
use Rattle.mx_any.specs.Machines.{meaning}
use Rattle.mx_debug_texts.specs.Documents.{denied_text, fault_head}
use Rattle.mx_debug_texts.proofs.WindowLaws.{further_none, puts_more}
use Rattle.mx_debug_texts.proofs.faults.put_reason.Goals as goal

pub returns-in-Fault : goal.returns-in-Fault
returns-in-Fault c =
    let w = c.args.window.now in
    let plan = c.args.plan.now in
    let head = fault_head plan c.in-Fault.domain c.in-Fault.fault in
    let denied = denied_text (meaning c.args.machine.now) plan c.in-Fault.fault in
    let one = puts_more w c.put_head.new.window c.put_denied.new.window head denied (head ++ denied) c.put_head.ensures c.put_denied.ensures
    refl in
    rw c.in-Fault.is (puts_more w c.put_denied.new.window c.put.new.self (head ++ denied) (codes "\n") ((head ++ denied) ++ codes "\n") one
    c.put.ensures refl)

pub returns-in-Exit : goal.returns-in-Exit
returns-in-Exit c = rw c.in-Exit.is (further_none c.args.window.now)
