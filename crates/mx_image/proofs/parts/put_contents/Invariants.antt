use Rattle.std.proofs.Common.{◌≡◌, ◌+◌, ◌^◌, ◌≤◌, ◌++◌, length, drop}
use Rattle.mx_image.specs.Program.{filled}
use Rattle.mx_image.specs.Image.{contents}
use Rattle.mx_image.proofs.parts.put_contents.Given as goal

abbrev pub invariant-segments : goal.invariant-segments
invariant-segments l = record {
  out : l.out ++ contents (filled (drop l.segment-index l.segments)) ≡ l.initial.out ++ contents (filled l.segments);
  room : length l.out + length (contents (filled (drop l.segment-index l.segments))) ≤ 2 ^ 31;
}
