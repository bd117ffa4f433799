use Rattle.std.proofs.Common.{map}
use Rattle.mx_source.specs.Operands.{pieces_of}
use Rattle.mx_source.specs.OperandViews.{pieces_left}
use Rattle.mx_asm.specs.Denoted.{byte_of_number}
use Rattle.mx_asm.proofs.ProgramLaws.{IsLeft}
use Rattle.mx_asm.proofs.emission.add_numbers.Given as goal

abbrev pub invariant-pieces : goal.invariant-pieces
invariant-pieces l = IsLeft l.initial.program (map byte_of_number (pieces_of l.operands)) l.program
    (map byte_of_number (pieces_left l.piece-iterator))
