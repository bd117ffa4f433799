use Rattle.std.proofs.Common.{◌≡◌, take}
use Rattle.mx_debug_texts.specs.Pieces.{xml_text}
use Rattle.mx_debug_texts.specs.Window.{further}
use Rattle.mx_debug_texts.proofs.window.Window.put_xml.Given as goal

abbrev pub invariant-loop-byte : goal.invariant-loop-byte
invariant-loop-byte l = l.self ≡ further l.initial.self (xml_text (take l.byte-index l.bytes))
