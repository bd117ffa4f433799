use Rattle.std.proofs.Common.{◌++◌, codes, ap, sym, refl, ◌∙◌}
use Rattle.mx_debug.specs.Session.{hart_of_stop}
use Rattle.mx_debug.specs.Texts.{stop_text, thread_name}
use Rattle.mx_packets.proofs.CutLaws.{cut_more}
use Rattle.mx_debug.proofs.texts.put_stop.Goals as goal

pub returns : goal.returns
returns c =
    let a = c.args.answer.now in
    let s = c.signal.result.now in
    let t = thread_name c.hart_of_stop.result in
    let one = cut_more a s (codes "thread:") (s ++ codes "thread:") c.put.new.self c.put-2.new.self c.put.ensures c.put-2.ensures refl in
    let two = cut_more a (s ++ codes "thread:") t ((s ++ codes "thread:") ++ t) c.put-2.new.self c.put_thread.new.answer one
    c.put_thread.ensures refl in
    cut_more a ((s ++ codes "thread:") ++ t) (codes ";") (stop_text c.args.kept c.args.stop) c.put_thread.new.answer c.put-3.new.self two
    c.put-3.ensures
    (ap (λ x. ((x ++ codes "thread:") ++ thread_name (hart_of_stop c.args.kept c.args.stop)) ++ codes ";") (sym c.signal.ensures)
    ∙ ap (λ h. ((s ++ codes "thread:") ++ thread_name h) ++ codes ";") (sym c.hart_of_stop.ensures))
