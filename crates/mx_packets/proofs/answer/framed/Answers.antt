use Rattle.mx_packets.proofs.FrameLaws.{framed_next}
use Rattle.mx_packets.proofs.answer.framed.Goals as goal

pub loop-byte-preserved : goal.loop-byte-preserved
loop-byte-preserved c =
    framed_next c.args.body.now c.loop-byte.packet.items c.put_escaped-total.new.packet.items c.loop-byte.byte-index c.loop-byte.total
    c.put_escaped-total.result c.loop-byte-test.true c.loop-byte.invariant c.put_escaped-total.ensures.items
    c.put_escaped-total.ensures.checksum
