use Rattle.mx_debug_texts.specs.Pieces.{xml_byte}
use Rattle.mx_debug_texts.proofs.WindowLaws.{further_none, puts_item}
use Rattle.mx_debug_texts.proofs.window.Window.put_xml.Goals as goal

pub loop-byte-init : goal.loop-byte-init
loop-byte-init c = further_none c.args.self.now

pub loop-byte-preserved : goal.loop-byte-preserved
loop-byte-preserved c =
    puts_item xml_byte c.args.self.now c.loop-byte.self c.put_xml_byte.new.self c.args.bytes.now c.loop-byte.byte-index 0
    c.loop-byte-test.true c.loop-byte.invariant c.put_xml_byte.ensures
