use Rattle.mx_debug_texts.specs.Pieces.{piece_text}
use Rattle.mx_debug_texts.proofs.WindowLaws.{further_none, puts_item}
use Rattle.mx_debug_texts.proofs.window.Window.put_pieces.Goals as goal

pub loop-piece-init : goal.loop-piece-init
loop-piece-init c = further_none c.args.self.now

pub loop-piece-preserved : goal.loop-piece-preserved
loop-piece-preserved c =
    puts_item piece_text c.args.self.now c.loop-piece.self c.put_piece.new.self _ _ _ c.loop-piece-test.true c.loop-piece.invariant
    c.put_piece.ensures
