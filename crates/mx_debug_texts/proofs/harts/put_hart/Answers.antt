use Rattle.std.proofs.Common.{◌++◌, ap, sym}
use Rattle.mx_any.specs.Machines.{meaning}
use Rattle.mx_model.specs.State.{hart_at}
use Rattle.mx_debug_texts.specs.Documents.{hart_text, path_text, status_text}
use Rattle.mx_debug_texts.proofs.WindowLaws.{puts_more}
use Rattle.mx_debug_texts.proofs.harts.put_hart.Goals as goal

pub returns : goal.returns
returns c =
    let w = c.args.window.now in
    let core = (meaning c.args.machine.now).core in
    let path = path_text c.args.plan.now c.args.arrow.now (hart_at core c.args.hart) in
    let status = status_text (hart_at core c.args.hart).status in
    puts_more w c.put_path.new.window c.put_status.new.window path (status c.is_next.result)
    (hart_text c.args.plan.now c.args.arrow.now core c.args.next c.args.hart) c.put_path.ensures c.put_status.ensures
    (ap (λ n. path ++ status n) (sym c.is_next.ensures))
