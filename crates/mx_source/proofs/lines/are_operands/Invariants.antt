use Rattle.std.proofs.Common.{◌≡◌}
use Rattle.std.specs.List.{list_all}
use Rattle.mx_source.specs.Operands.{is_operand, pieces_of}
use Rattle.mx_source.specs.OperandViews.{pieces_left}
use Rattle.mx_source.proofs.lines.are_operands.Given as goal

abbrev pub invariant-pieces : goal.invariant-pieces
invariant-pieces l = list_all is_operand (pieces_of l.operands) ≡ list_all is_operand (pieces_left l.piece-iterator)
