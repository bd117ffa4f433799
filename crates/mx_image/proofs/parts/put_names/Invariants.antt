use Rattle.std.proofs.Common.{◌≡◌, ◌+◌, ◌^◌, ◌≤◌, ◌++◌, length, drop}
use Rattle.mx_image.specs.Labels.{labels_of}
use Rattle.mx_image.specs.Image.{names}
use Rattle.mx_image.proofs.parts.put_names.Given as goal

abbrev pub invariant-labels : goal.invariant-labels
invariant-labels l = record {
  out : l.out ++ names (labels_of (drop l.label-index l.labels)) ≡ l.initial.out ++ names (labels_of l.labels);
  room : length l.out + length (names (labels_of (drop l.label-index l.labels))) ≤ 2 ^ 31;
}
