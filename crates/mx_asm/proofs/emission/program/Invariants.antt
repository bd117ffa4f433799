use Rattle.std.proofs.Common.{◌≡◌, ◌+◌, length, drop, None}
use Rattle.std.specs.Str.Lines.{lines}
use Rattle.mx_image.specs.Program.{no_program}
use Rattle.mx_asm.specs.Places.{start}
use Rattle.mx_asm.specs.Faults.{fault_from, offset_from}
use Rattle.mx_asm.specs.LabelViews.{labels_view}
use Rattle.mx_asm.specs.Denoted.{program_from}
use Rattle.mx_asm.proofs.Placed.{IsPlaced}
use Rattle.mx_asm.proofs.emission.program.Given as goal

abbrev pub invariant-lines : goal.invariant-lines
invariant-lines l =
    let labels = labels_view l.labels in
    let rest = drop (length l.yielded) (lines l.source) in
    record {
      program : program_from labels l.place rest l.program ≡ program_from labels start (lines l.source) no_program;
      faults : fault_from labels l.place (length l.yielded + 1) rest ≡ None;
      offsets : offset_from labels l.place (length l.yielded + 1) rest ≡ None;
      placed : IsPlaced l.place l.program;
    }
