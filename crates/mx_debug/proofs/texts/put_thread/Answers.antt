use Rattle.std.proofs.Common.{◌∷◌, [], ◌++◌, codes, ap, sym}
use Rattle.mx_debug.specs.Texts.{thread_name}
use Rattle.mx_packets.proofs.CutLaws.{cut_more}
use Rattle.mx_debug.proofs.texts.put_thread.Goals as goal

pub returns : goal.returns
returns c =
    cut_more c.args.answer.now (codes "p1.") (c.thread_digit.result ∷ []) (thread_name c.args.hart) c.put.new.self c.push.new.self
    c.put.ensures c.push.ensures
    (ap (λ x. codes "p1." ++ x ∷ []) (sym c.thread_digit.ensures))
