use Rattle.std.proofs.Common.{◌≡◌, ◌++◌, map, take}
use Rattle.mx_boot.specs.Areas.{segment_area}
use Rattle.mx_boot.specs.Seen.{seen}
use Rattle.mx_boot.proofs.areas.add_segments.Given as goal

abbrev pub invariant-loop-k : goal.invariant-loop-k
invariant-loop-k l = l.areas.items ≡ l.fn.areas.items ++ map (segment_area (seen l.home)) (take l.k l.segments)
