use Rattle.std.proofs.Common.{◌≡◌, List, ℕ, ◌∷◌, [], ◌+◌, drop, length, min, take, ap, sym, ◌∙◌}
use Rattle.mx_debug.specs.Texts.{window_mark, window_text}
use Rattle.mx_packets.proofs.CutLaws.{cut_more}
use Rattle.mx_debug.proofs.target.put_window.Goals as goal

pub returns : goal.returns
returns c =
    let text = c.args.text.now in
    let part = c.part-part.result.now in
    let is : part ≡ take (min c.args.count 4000) (drop c.args.at text) = c.part-part.ensures
    ∙ ap (λ n. take n (drop c.args.at text)) c.min.ensures in
    cut_more c.args.answer.now (c.mark.result ∷ []) part (window_text text c.args.at c.args.count) c.push.new.self c.put.new.self
    c.push.ensures c.put.ensures
    (sym (ap (λ x. x ∷ part) c.mark.ensures ∙ ap (λ (x : List ℕ). window_mark (c.args.at + length x) (length text) ∷ x) is))
