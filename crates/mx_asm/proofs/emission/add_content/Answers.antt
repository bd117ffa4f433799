use Rattle.mx_source.specs.Operands.{pieces_of}
use Rattle.mx_asm.specs.Places.{ascii_of}
use Rattle.mx_asm.specs.Faults.{operand_fault}
use Rattle.mx_asm.proofs.FaultLaws.{kind_some}
use Rattle.mx_asm.proofs.emission.add_content.Goals as goal

pub add_ascii-requires-clause-text : goal.add_ascii-requires-clause-text
unfolding operand_fault
add_ascii-requires-clause-text c =
    kind_some _ (ascii_of (pieces_of c.args.operands.now)) (rw c.in-Ascii.is at c.requires.faultless)
