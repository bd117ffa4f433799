use Rattle.std.proofs.Common.{map}
use Rattle.mx_image.specs.Image.{words}
use Rattle.mx_source.specs.Operands.{pieces_of}
use Rattle.mx_source.specs.OperandViews.{pieces_left}
use Rattle.mx_asm.specs.LabelViews.{labels_view}
use Rattle.mx_asm.specs.Denoted.{word_of_value}
use Rattle.mx_asm.proofs.ProgramLaws.{IsLeft}
use Rattle.mx_asm.proofs.emission.add_values.Given as goal

abbrev pub invariant-pieces : goal.invariant-pieces
invariant-pieces l =
    let f = word_of_value (labels_view l.labels) in
    IsLeft l.initial.program (words (map f (pieces_of l.operands))) l.program (words (map f (pieces_left l.piece-iterator)))
