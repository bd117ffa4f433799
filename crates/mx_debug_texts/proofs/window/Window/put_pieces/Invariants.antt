use Rattle.std.proofs.Common.{◌≡◌, take}
use Rattle.mx_debug_texts.specs.Pieces.{pieces_text}
use Rattle.mx_debug_texts.specs.Window.{further}
use Rattle.mx_debug_texts.proofs.window.Window.put_pieces.Given as goal

abbrev pub invariant-loop-piece : goal.invariant-loop-piece
invariant-loop-piece l = l.self ≡ further l.initial.self (pieces_text (take l.piece-index l.pieces))
