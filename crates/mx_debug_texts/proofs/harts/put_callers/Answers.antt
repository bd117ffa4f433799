use Rattle.std.proofs.Common.{◌≤◌, ◌++◌, List, flat_map, length, ap, ◌∙◌, arith}
use Rattle.std.proofs.lemmas.List.{take_all}
use Rattle.mx_any.specs.Machines.{meaning}
use Rattle.mx_model.specs.State.{hart_at}
use Rattle.mx_model.specs.declared.values.Frame.{Frame}
use Rattle.mx_debug_texts.specs.Documents.{name_of}
use Rattle.mx_debug_texts.specs.Window.{further}
use Rattle.mx_debug_texts.proofs.WindowLaws.{further_none, puts_got}
use Rattle.mx_debug_texts.proofs.harts.put_callers.Goals as goal

pub loop-i-init : goal.loop-i-init
loop-i-init c = further_none c.args.window.now

pub loop-i-preserved : goal.loop-i-preserved
loop-i-preserved c =
    puts_got (λ (f : Frame). name_of c.args.plan.now f.caller ++ c.args.arrow.now) c.args.window.now c.loop-i.window c.put_caller.new.window
    (hart_at (meaning c.args.machine.now).core c.args.hart).frames c.loop-i.i c.frame_at.result c.frame_at.ensures c.loop-i.invariant
    c.put_caller.ensures

pub returns : goal.returns
returns c =
    let frames = (hart_at (meaning c.args.machine.now).core c.args.hart).frames in
    let all : length frames ≤ c.loop-i.i = omega arith in
    c.loop-i.invariant ∙ ap (λ (fs : List Frame). further c.args.window.now
    (flat_map (λ (f : Frame). name_of c.args.plan.now f.caller ++ c.args.arrow.now) fs)) (take_all c.loop-i.i frames all)
