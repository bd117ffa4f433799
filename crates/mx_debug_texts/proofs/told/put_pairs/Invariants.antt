use Rattle.std.proofs.Common.{◌≡◌, ◌++◌, take}
use Rattle.mx_packets.specs.Frames.{cut}
use Rattle.mx_debug_texts.specs.Told.{pairs}
use Rattle.mx_debug_texts.proofs.told.put_pairs.Given as goal

abbrev pub invariant-loop-byte : goal.invariant-loop-byte
invariant-loop-byte l = l.answer ≡ cut (l.initial.answer ++ pairs (take l.byte-index l.bytes))
