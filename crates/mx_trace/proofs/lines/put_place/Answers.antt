use Rattle.std.proofs.Common.{◌++◌, codes, decimal, ap, ◌∙◌}
use Rattle.mx_io.specs.Piece.{hex_number}
use Rattle.mx_trace.proofs.LineLaws.{part_put}
use Rattle.mx_trace.proofs.lines.put_place.Goals as goal

pub returns-in-Some-clause-text : goal.returns-in-Some-clause-text
returns-in-Some-clause-text g c =
    let pc = c.put_text-in-Some.ensures ∙ ap (λ xs. codes " " ++ xs) c.put_hex.ensures.text in
    rw c.in-Some.is (part_put (decimal c.in-Some.seen.domain) (codes " " ++ hex_number c.in-Some.seen.pc) c.args.line.now pc
    c.put_number.ensures.text)
