use Rattle.std.proofs.Common.{◌++◌, codes, decimal, ap, ◌∙◌}
use Rattle.mx_io.specs.Piece.{hex_number}
use Rattle.mx_trace.proofs.LineLaws.{part_put}
use Rattle.mx_trace.proofs.did.put_fault.Goals as goal

pub returns-clause-text : goal.returns-clause-text
returns-clause-text g c =
    let value = c.put_text.ensures ∙ ap (λ xs. codes "/" ++ xs) c.put_hex.ensures.text in
    let cause = part_put (decimal c.args.cause) (codes "/" ++ hex_number c.args.value) c.args.line.now value c.put_number.ensures.text in
    c.put_text-2.ensures ∙ ap (λ xs. codes " fault=" ++ xs) cause
