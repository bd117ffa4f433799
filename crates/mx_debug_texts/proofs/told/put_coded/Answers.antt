use Rattle.std.proofs.Common.{◌≡◌, ℕ, List, ◌++◌, drop, take, ap, ◌∙◌}
use Rattle.mx_any.specs.Machines.{meaning}
use Rattle.mx_packets.specs.Frames.{cut}
use Rattle.mx_debug_texts.specs.Documents.{document_text, known_by}
use Rattle.mx_debug_texts.specs.Told.{pairs}
use Rattle.mx_debug_texts.specs.Window.{Part, further}
use Rattle.mx_debug_texts.proofs.ToldLaws.{pairs_cut}
use Rattle.mx_debug_texts.proofs.WindowLaws.{held_of}
use Rattle.mx_debug_texts.proofs.told.put_coded.Goals as goal

pub returns : goal.returns
returns c =
    let text = document_text (meaning c.args.machine.now) (known_by c.args.named.now) c.args.document in
    let held : c.bytes.result.now ≡ take 2048 (drop 0 text) = c.bytes.ensures
    ∙ ap (λ (p : Part). p.held) (c.put_document.ensures ∙ ap (λ (p : Part). further p text) c.new-window.ensures)
    ∙ held_of 0 2048 text in
    c.put_pairs.ensures ∙ ap (λ (b : List ℕ). cut (c.args.answer.now ++ pairs b)) held ∙ pairs_cut c.args.answer.now text
