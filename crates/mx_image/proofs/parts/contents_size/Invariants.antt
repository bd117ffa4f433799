use Rattle.std.proofs.Common.{◌≡◌, ◌+◌, length, drop}
use Rattle.mx_image.specs.Program.{filled}
use Rattle.mx_image.specs.Image.{contents}
use Rattle.mx_image.proofs.parts.contents_size.Given as goal

abbrev pub invariant-segments : goal.invariant-segments
invariant-segments l = l.size + length (contents (filled (drop l.segment-index l.segments))) ≡ length (contents (filled l.segments))
