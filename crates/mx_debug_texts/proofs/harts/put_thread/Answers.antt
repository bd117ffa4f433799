use Rattle.std.proofs.Common.{◌++◌, codes, refl}
use Rattle.mx_any.specs.Machines.{meaning}
use Rattle.mx_debug_texts.specs.Documents.{hart_text, thread_head, thread_text}
use Rattle.mx_debug_texts.proofs.WindowLaws.{puts_more}
use Rattle.mx_debug_texts.proofs.harts.put_thread.Goals as goal

pub returns : goal.returns
returns c =
    let w = c.args.window.now in
    let core = (meaning c.args.machine.now).core in
    let head = thread_head c.args.hart in
    let text = hart_text c.args.plan.now (codes " &gt; ") core c.args.next c.args.hart in
    let one = puts_more w c.put_head.new.window c.put_hart.new.window head text (head ++ text) c.put_head.ensures c.put_hart.ensures refl in
    puts_more w c.put_hart.new.window c.put.new.self (head ++ text) (codes "</thread>")
    (thread_text c.args.plan.now core c.args.next c.args.hart) one c.put.ensures refl
