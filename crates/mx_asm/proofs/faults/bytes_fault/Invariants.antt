use Rattle.std.proofs.Common.{◌≡◌}
use Rattle.mx_source.specs.Operands.{pieces_of}
use Rattle.mx_source.specs.OperandViews.{pieces_left}
use Rattle.mx_asm.specs.Faults.{lesser_fault, least_fault, byte_fault}
use Rattle.mx_asm.proofs.faults.bytes_fault.Given as goal

abbrev pub invariant-pieces : goal.invariant-pieces
invariant-pieces l = lesser_fault l.fault (least_fault byte_fault (pieces_left l.piece-iterator))
    ≡ least_fault byte_fault (pieces_of l.operands)
