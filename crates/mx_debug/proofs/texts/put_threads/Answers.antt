use Rattle.std.proofs.Common.{◌-◌, ◌++◌, codes, refl}
use Rattle.mx_debug.specs.Texts.{more_threads, thread_name, threads_text}
use Rattle.mx_packets.proofs.CutLaws.{cut_more}
use Rattle.mx_debug.proofs.texts.put_threads.Goals as goal

pub returns : goal.returns
returns c =
    let a = c.args.answer.now in
    let one = cut_more a (codes "m") (thread_name 0) (codes "m" ++ thread_name 0) c.put.new.self c.put_thread.new.answer c.put.ensures
    c.put_thread.ensures refl in
    cut_more a (codes "m" ++ thread_name 0) (more_threads 1 (c.args.harts - 1)) (threads_text c.args.harts) c.put_thread.new.answer
    c.put_more.new.answer one c.put_more.ensures refl
