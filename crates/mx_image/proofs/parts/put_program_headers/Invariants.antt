use Rattle.std.proofs.Common.{◌≡◌, ◌+◌, ◌*◌, ◌^◌, ◌≤◌, ◌++◌, length, drop}
use Rattle.mx_image.specs.Program.{filled}
use Rattle.mx_image.specs.Image.{contents, program_headers}
use Rattle.mx_image.proofs.parts.put_program_headers.Given as goal

abbrev pub invariant-segments : goal.invariant-segments
invariant-segments l = record {
  out : l.out ++ program_headers l.at (filled (drop l.segment-index l.segments)) ≡ l.initial.out
      ++ program_headers l.initial.at (filled l.segments);
  room : length l.out + 32 * length (filled (drop l.segment-index l.segments)) ≤ 2 ^ 31;
  at : l.at + length (contents (filled (drop l.segment-index l.segments))) ≡ l.initial.at + length (contents (filled l.segments));
}
