use Rattle.mx_boot.specs.Areas.{segment_area}
use Rattle.mx_boot.specs.Seen.{seen}
use Rattle.mx_boot.proofs.Rows.{grown_by_one}
use Rattle.mx_boot.proofs.areas.add_segments.Goals as goal

pub loop-k-preserved : goal.loop-k-preserved
loop-k-preserved c =
    grown_by_one (segment_area (seen c.args.home)) c.args.segments.now c.loop-k.k c.get.result c.args.areas.now.items c.loop-k.areas.items
    c.add.new.areas.items
    c.segment_area.result c.get.ensures c.loop-k.invariant c.segment_area.ensures c.in_ok-add.ensures
