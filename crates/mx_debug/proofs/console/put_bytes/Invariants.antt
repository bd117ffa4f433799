use Rattle.std.proofs.Common.{◌≡◌, ◌++◌, drop, take}
use Rattle.mx_packets.specs.Frames.{cut}
use Rattle.mx_debug.specs.Texts.{pairs}
use Rattle.mx_debug.proofs.console.put_bytes.Given as goal

abbrev pub invariant-loop-i : goal.invariant-loop-i
invariant-loop-i l = l.answer ≡ cut (l.initial.answer ++ pairs (take l.i (drop l.at l.events.bytes)))
