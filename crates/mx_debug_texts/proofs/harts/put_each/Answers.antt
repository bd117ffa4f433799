use Rattle.std.proofs.Common.{◌≡◌, flat_map, length, ap, ◌∙◌, arith}
use Rattle.std.specs.List.{range_with_len}
use Rattle.mx_any.specs.Machines.{meaning}
use Rattle.mx_debug_texts.specs.Documents.{thread_text}
use Rattle.mx_debug_texts.specs.Window.{further}
use Rattle.mx_debug_texts.proofs.WindowLaws.{further_none, puts_number}
use Rattle.mx_debug_texts.proofs.harts.put_each.Goals as goal

pub loop-hart-init : goal.loop-hart-init
loop-hart-init c = further_none c.args.window.now

pub loop-hart-preserved : goal.loop-hart-preserved
loop-hart-preserved c =
    puts_number (thread_text c.args.plan.now (meaning c.args.machine.now).core c.args.next) c.args.window.now c.loop-hart.window
    c.put_thread.new.window 0 c.loop-hart.hart c.loop-hart.hart (omega arith) c.loop-hart.invariant c.put_thread.ensures

pub returns : goal.returns
returns c =
    let core = (meaning c.args.machine.now).core in
    let all : c.loop-hart.hart ≡ length core.harts = omega arith in
    c.loop-hart.invariant ∙ ap (λ n. further c.args.window.now
    (flat_map (thread_text c.args.plan.now core c.args.next) (range_with_len 0 n))) all
