use Rattle.std.proofs.Common.{◌≡◌, ◌+◌, length, drop}
use Rattle.mx_image.specs.Program.{filled}
use Rattle.mx_image.proofs.parts.filled_count.Given as goal

abbrev pub invariant-segments : goal.invariant-segments
invariant-segments l = l.count + length (filled (drop l.segment-index l.segments)) ≡ length (filled l.segments)
