use Rattle.std.proofs.Common.{◌≡◌, ℕ, List, [], ◌∷◌, drop, length, min, take, nat_lt, ap, sym, ◌∙◌}
use Rattle.mx_any.specs.Machines.{meaning}
use Rattle.mx_packets.proofs.CutLaws.{cut_more}
use Rattle.mx_debug_texts.specs.Documents.{document_text, known_by}
use Rattle.mx_debug_texts.specs.Told.{mark_by, window_text}
use Rattle.mx_debug_texts.specs.Window.{Part, further, part_from}
use Rattle.mx_debug_texts.proofs.ToldLaws.{window_is}
use Rattle.mx_debug_texts.proofs.WindowLaws.{held_of, over_of}
use Rattle.mx_debug_texts.proofs.told.put_part.Goals as goal

pub returns : goal.returns
returns c =
    let text = document_text (meaning c.args.machine.now) (known_by c.args.named.now) c.args.document in
    let at = c.args.at in
    let n = min c.args.count 4000 in
    let is : c.put_document.new.window ≡ further (part_from at n) text = c.put_document.ensures
    ∙ ap (λ (p : Part). further p text) (c.new-window.ensures ∙ ap (part_from at) c.min.ensures) in
    let held : c.bytes.result.now ≡ take n (drop at text) = c.bytes.ensures ∙ ap (λ (p : Part). p.held) is ∙ held_of at n text in
    let over : c.is_over.result ≡ nat_lt n (length (drop at text)) = c.is_over.ensures ∙ ap (λ (p : Part). p.over) is ∙ over_of at n text in
    cut_more c.args.answer.now (c.mark.result ∷ []) c.bytes.result.now (window_text text at c.args.count) c.push.new.self c.put.new.self
    c.push.ensures c.put.ensures
    (sym (ap (λ m. m ∷ c.bytes.result.now) (c.mark.ensures ∙ ap mark_by over)
    ∙ ap (λ (b : List ℕ). mark_by (nat_lt n (length (drop at text))) ∷ b) held ∙ window_is text at c.args.count))
