use Rattle.std.proofs.Common.{map, ap, arith}
use Rattle.std.proofs.lemmas.Grind.{common_steps}
use Rattle.mx_source.specs.Operands.{pieces_of}
use Rattle.mx_source.specs.OperandViews.{pieces_left}
use Rattle.mx_asm.specs.Denoted.{byte_of_number}
use Rattle.mx_asm.proofs.ProgramLaws.{left_byte}
use Rattle.mx_asm.proofs.emission.add_numbers.Goals as goal

pub pieces-preserved : goal.pieces-preserved
pieces-preserved c =
    left_byte c.args.program.now (map byte_of_number (pieces_of c.args.operands.now)) c.pieces.program
    (map byte_of_number (pieces_left c.pieces.piece-iterator)) c.pieces.invariant
    (byte_of_number c.in-Some.piece.now) (map byte_of_number (pieces_left c.next.new.self)) c.add_byte.new.self
    (ap (map byte_of_number) c.in-Some.ensures.steps) (rw (← c.number_byte.ensures) c.in_ok-add_byte.ensures.ok)

pub add_byte-requires-clause-room : goal.add_byte-requires-clause-room
add_byte-requires-clause-room c = grind (arith, common_steps)
