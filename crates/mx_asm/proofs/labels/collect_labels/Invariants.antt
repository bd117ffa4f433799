use Rattle.std.proofs.Common.{◌≡◌, ◌+◌, ◌≤◌, length, drop}
use Rattle.std.specs.Str.Lines.{lines}
use Rattle.mx_asm.specs.Labels.{labels_from}
use Rattle.mx_asm.specs.LabelViews.{labels_view}
use Rattle.mx_asm.specs.Denoted.{labels_of_source}
use Rattle.mx_asm.proofs.LineLaws.{IsPlaceBound}
use Rattle.mx_asm.proofs.labels.collect_labels.Given as goal

abbrev pub invariant-lines : goal.invariant-lines
invariant-lines l =
    record {
      labels : labels_from l.place l.number (labels_view l.labels) (drop (length l.yielded) (lines l.source)) ≡ labels_of_source l.source;
      number : l.number ≡ length l.yielded + 1;
      bound : IsPlaceBound (length l.yielded) l.place;
      few : length l.yielded ≤ length l.source;
    }
