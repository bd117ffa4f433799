use Rattle.std.proofs.Common.{◌++◌, codes, decimal, ap, ◌∙◌}
use Rattle.mx_io.specs.Piece.{hex_number}
use Rattle.mx_trace.proofs.LineLaws.{part_put}
use Rattle.mx_trace.proofs.did.put_store.Goals as goal

pub returns-clause-text : goal.returns-clause-text
returns-clause-text g c =
    let value = c.put_text.ensures ∙ ap (λ xs. codes "/" ++ xs) c.put_hex.ensures.text in
    let size = part_put (decimal c.args.size) (codes "/" ++ hex_number c.args.value) c.args.line.now value c.put_number.ensures.text in
    let at = c.put_hex-2.ensures.text ∙ ap (λ xs. hex_number c.args.at ++ xs) (c.put_text-2.ensures ∙ ap (λ xs. codes "/" ++ xs) size) in
    c.put_text-3.ensures ∙ ap (λ xs. codes " store=" ++ xs) at
