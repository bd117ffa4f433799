use Rattle.std.proofs.Common.{arith}
use Rattle.mx_source.proofs.Steps.{piece_steps}
use Rattle.mx_source.proofs.pieces.PiecesIterator.next.Goals as goal

pub returns-clause-steps : goal.returns-clause-steps
returns-clause-steps c = grind (arith, piece_steps)
