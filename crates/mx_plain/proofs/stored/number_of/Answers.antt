use Rattle.std.proofs.Common.{◌∙◌}
use Rattle.mx_plain.proofs.StoredWords.{number_at}
use Rattle.mx_plain.proofs.stored.number_of.Goals as goal

pub returns-then-place-lt16-clause-number : goal.returns-then-place-lt16-clause-number
returns-then-place-lt16-clause-number c =
    c.number.ensures ∙ number_at c.args.runs.now c.args.i c.requires.line.whole c.if-place-lt16.true
