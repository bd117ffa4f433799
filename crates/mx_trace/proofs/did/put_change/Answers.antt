use Rattle.std.proofs.Common.{◌++◌, codes, decimal, ap, ◌∙◌}
use Rattle.std.proofs.lemmas.Bool.{ne_eqb}
use Rattle.mx_io.specs.Piece.{hex_number}
use Rattle.mx_trace.proofs.LineLaws.{part_put}
use Rattle.mx_trace.proofs.did.put_change.Goals as goal

pub returns-then-before-after-clause-text : goal.returns-then-before-after-clause-text
returns-then-before-after-clause-text g c =
    let value = c.put_text.ensures ∙ ap (λ xs. codes "=" ++ xs) c.put_hex.ensures.text in
    let register = part_put (decimal c.args.i) (codes "=" ++ hex_number c.args.after) c.args.line.now value c.put_number.ensures.text in
    rw (ne_eqb c.args.before c.args.after c.if-before-after.true) (c.put_text-then-before-after.ensures
    ∙ ap (λ xs. codes " x" ++ xs) register)
