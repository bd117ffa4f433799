use Rattle.std.proofs.Common.{◌≡◌, take, map, fold, length}
use Rattle.mx_boot.specs.Areas.{segment_content}
use Rattle.mx_boot.specs.Boot.{with_content}
use Rattle.mx_boot.proofs.ram.put_segments.Given as goal

abbrev pub invariant-segments : goal.invariant-segments
invariant-segments l = (l.ram ≡ fold with_content l.fn.ram (map (segment_content l.bytes) (take l.k l.segments)))
    × (length l.ram ≡ length l.fn.ram)
