use Rattle.mx_packets.proofs.FrameLaws.{Framed}
use Rattle.mx_packets.proofs.answer.framed.Given as goal

abbrev pub invariant-loop-byte : goal.invariant-loop-byte
invariant-loop-byte l = Framed l.body l.byte-index l.packet.items l.total
