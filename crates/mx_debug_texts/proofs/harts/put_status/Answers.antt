use Rattle.std.proofs.Common.{Some, ap, sym, ◌∙◌}
use Rattle.mx_any.specs.Machines.{meaning}
use Rattle.mx_model.specs.State.{hart_at}
use Rattle.mx_debug_texts.specs.Window.{further}
use Rattle.mx_debug_texts.proofs.StatusLaws.{status_ended, status_unended}
use Rattle.mx_debug_texts.proofs.harts.put_status.Goals as goal

pub returns-in-Some : goal.returns-in-Some
returns-in-Some c =
    let status = (hart_at (meaning c.args.machine.now).core c.args.hart).status in
    c.put_pieces.ensures
    ∙ ap (further c.args.window.now) (sym (status_ended status c.args.next c.in-Some.code (sym c.exit.ensures ∙ c.in-Some.is)))

pub returns-in-None : goal.returns-in-None
returns-in-None c =
    let status = (hart_at (meaning c.args.machine.now).core c.args.hart).status in
    c.put.ensures
    ∙ ap (further c.args.window.now) (c.unended.ensures ∙ status_unended status c.args.next c.place.result.status
    (sym c.exit.ensures ∙ c.in-None.is) c.place.ensures.status)
