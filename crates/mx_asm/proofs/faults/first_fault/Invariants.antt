use Rattle.std.proofs.Common.{◌≡◌, ◌+◌, ◌≤◌, length, drop}
use Rattle.std.specs.Option.{option_or}
use Rattle.std.specs.Str.Lines.{lines}
use Rattle.mx_asm.specs.Faults.{fault_from, offset_from}
use Rattle.mx_asm.specs.Places.{start}
use Rattle.mx_asm.specs.LabelViews.{labels_view}
use Rattle.mx_asm.proofs.LineLaws.{IsPlaceBound}
use Rattle.mx_asm.proofs.faults.first_fault.Given as goal

abbrev pub invariant-lines : goal.invariant-lines
invariant-lines l =
    record {
      faults : fault_from (labels_view l.labels) l.place l.line_number (drop (length l.yielded) (lines l.source))
          ≡ fault_from (labels_view l.labels) start 1 (lines l.source);
      offsets : option_or l.offset (offset_from (labels_view l.labels) l.place l.line_number (drop (length l.yielded) (lines l.source)))
          ≡ offset_from (labels_view l.labels) start 1 (lines l.source);
      number : l.line_number ≡ length l.yielded + 1;
      bound : IsPlaceBound (length l.yielded) l.place;
      few : length l.yielded ≤ length l.source;
    }
