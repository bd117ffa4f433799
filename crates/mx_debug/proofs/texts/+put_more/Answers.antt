use Rattle.std.proofs.Common.{◌+◌, ◌-◌, ◌++◌, codes, refl, ap, sym, ◌∙◌, arith}
use Rattle.mx_debug.specs.Texts.{more_threads, thread_name}
use Rattle.mx_packets.specs.Frames.{cut}
use Rattle.mx_packets.proofs.CutLaws.{cut_more, cut_none}
use Rattle.mx_debug.proofs.TextLaws.{next_thread, no_threads}
use Rattle.mx_debug.proofs.texts.+put_more.Goals as goal

pub returns-then-harts-eq0 : goal.returns-then-harts-eq0
returns-then-harts-eq0 t c =
    cut_none c.args.answer.now c.text-held.ensures.few
    ∙ ap (λ x. cut (c.args.answer.now ++ x)) (sym (no_threads c.args.hart c.args.harts c.if-harts-eq0.true))

pub returns : goal.returns
returns t c =
    let a = c.args.answer.now in
    let n = codes "," ++ thread_name c.args.hart in
    let one = cut_more a (codes ",") (thread_name c.args.hart) n c.put.new.self c.put_thread.new.answer c.put.ensures c.put_thread.ensures
    refl in
    cut_more a n (more_threads (c.args.hart + 1) (c.args.harts - 1)) (more_threads c.args.hart c.args.harts) c.put_thread.new.answer
    c.put_more.new.answer one c.put_more.ensures
    (next_thread c.args.hart c.args.harts (omega (arith, c.if-harts-eq0.false)))
