use Rattle.mx_packets.specs.Frames.{pair}
use Rattle.mx_packets.proofs.CutLaws.{cut_item, cut_none}
use Rattle.mx_debug_texts.proofs.told.put_pairs.Goals as goal

pub loop-byte-init : goal.loop-byte-init
loop-byte-init c = cut_none c.args.answer.now c.text-held.ensures.few

pub loop-byte-preserved : goal.loop-byte-preserved
loop-byte-preserved c =
    cut_item pair c.args.answer.now c.loop-byte.answer c.put_pair.new.self c.args.bytes.now c.loop-byte.byte-index c.loop-byte-test.true
    c.loop-byte.invariant c.put_pair.ensures
