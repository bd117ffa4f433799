use Rattle.std.proofs.Common.{◌++◌, codes, refl, flat_map, length}
use Rattle.std.specs.List.{range_with_len}
use Rattle.mx_any.specs.Machines.{meaning}
use Rattle.mx_debug_texts.specs.Documents.{thread_text, threads_text}
use Rattle.mx_debug_texts.proofs.WindowLaws.{puts_more}
use Rattle.mx_debug_texts.proofs.harts.put_threads.Goals as goal

pub returns : goal.returns
returns c =
    let w = c.args.window.now in
    let core = (meaning c.args.machine.now).core in
    let all = flat_map (thread_text c.args.plan.now core c.args.next) (range_with_len 0 (length core.harts)) in
    let one = puts_more w c.put.new.self c.put_each.new.window (codes "<threads>") all (codes "<threads>" ++ all) c.put.ensures
    c.put_each.ensures refl in
    puts_more w c.put_each.new.window c.put-2.new.self (codes "<threads>" ++ all) (codes "</threads>")
    (threads_text c.args.plan.now core c.args.next) one c.put-2.ensures refl
