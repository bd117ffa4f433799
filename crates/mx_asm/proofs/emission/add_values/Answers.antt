use Rattle.std.proofs.Common.{◌≡◌, map, ap, ◌∙◌, ◌∷◌, [], arith, length}
use Rattle.std.proofs.lemmas.List.{length-map}
use Rattle.mx_image.specs.Image.{words}
use Rattle.mx_image.proofs.Sizes.{length-words}
use Rattle.mx_source.specs.Operands.{pieces_of}
use Rattle.mx_source.specs.OperandViews.{pieces_left}
use Rattle.mx_asm.specs.LabelViews.{labels_view}
use Rattle.mx_asm.specs.Denoted.{word_of_value}
use Rattle.mx_asm.proofs.ProgramLaws.{left_bytes, words-cons}
use Rattle.mx_asm.proofs.emission.add_values.Goals as goal

pub add_word-requires-clause-room : goal.add_word-requires-clause-room
add_word-requires-clause-room c =
    let f = word_of_value (labels_view c.args.labels.now) in
    let left = ap (map f) c.in-Some.ensures.steps in
    let count = length-words (map f (pieces_left c.pieces.piece-iterator)) in
    let all = length-words (map f (pieces_of c.args.operands.now)) in
    let more = ap length left in
    let each : length (map f (pieces_of c.args.operands.now)) ≡ length (pieces_of c.args.operands.now) =
    length-map (pieces_of c.args.operands.now) f in
    omega (arith, c.pieces.invariant.bytes, c.requires.room)

pub pieces-preserved : goal.pieces-preserved
pieces-preserved c =
    let f = word_of_value (labels_view c.args.labels.now) in
    left_bytes c.args.program.now (words (map f (pieces_of c.args.operands.now))) c.pieces.program
    (words (map f (pieces_left c.pieces.piece-iterator))) c.pieces.invariant
    (words (f c.in-Some.piece.now ∷ [])) (words (map f (pieces_left c.next.new.self))) c.add_word.new.program
    (ap (λ xs. words (map f xs)) c.in-Some.ensures.steps ∙ words-cons (f c.in-Some.piece.now) (map f (pieces_left c.next.new.self)))
    (rw (← c.value_word.ensures) c.in_ok-add_word.ensures.bytes)
