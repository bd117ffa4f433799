use Rattle.std.proofs.Common.{◌≡◌, ℕ, List, length, take}
use Rattle.mx_snapshot.specs.Reader.{number}
use Rattle.mx_resume.proofs.Lists.{Left}
use Rattle.mx_resume.proofs.frames.kept.Given as goal

abbrev pub invariant-kept : goal.invariant-kept
invariant-kept l = record {
  long : length l.kept ≡ 15;
  left : Left (λ (others : List ℕ). number) l.bytes 15 l.fn.at l.i (take l.i l.kept) l.at;
}
