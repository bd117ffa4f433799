use Rattle.std.proofs.Common.{◌≡◌, length}
use Rattle.mx_snapshot.specs.Fields.{frame_in}
use Rattle.mx_resume.specs.Parts.{head_seen}
use Rattle.mx_resume.proofs.Lists.{Left}
use Rattle.mx_resume.proofs.frames.read_frames.Given as goal

abbrev pub invariant-frames : goal.invariant-frames
invariant-frames l = record {
  long : length l.frames ≡ l.counter;
  left : Left (frame_in (head_seen l.head)) l.bytes l.count l.fn.at l.counter l.frames l.at;
}
