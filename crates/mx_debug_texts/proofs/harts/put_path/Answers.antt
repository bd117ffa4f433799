use Rattle.std.proofs.Common.{◌++◌, flat_map, refl, ap, ◌∙◌}
use Rattle.mx_any.specs.Machines.{meaning}
use Rattle.mx_model.specs.State.{hart_at}
use Rattle.mx_model.specs.declared.values.Frame.{Frame}
use Rattle.mx_debug_texts.specs.Documents.{name_of, path_text}
use Rattle.mx_debug_texts.specs.Window.{further}
use Rattle.mx_debug_texts.proofs.WindowLaws.{puts_more}
use Rattle.mx_debug_texts.proofs.harts.put_path.Goals as goal

pub returns : goal.returns
returns c =
    let w = c.args.window.now in
    let plan = c.args.plan.now in
    let hart = hart_at (meaning c.args.machine.now).core c.args.hart in
    let callers = flat_map (λ (f : Frame). name_of plan f.caller ++ c.args.arrow.now) hart.frames in
    puts_more w c.put_callers.new.window c.put_name.new.window callers (name_of plan hart.domain) (path_text plan c.args.arrow.now hart)
    c.put_callers.ensures
    (c.put_name.ensures ∙ ap (λ d. further c.put_callers.new.window (name_of plan d)) c.place.ensures.domain) refl
