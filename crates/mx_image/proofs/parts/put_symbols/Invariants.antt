use Rattle.std.proofs.Common.{◌≡◌, ◌+◌, ◌*◌, ◌^◌, ◌≤◌, ◌++◌, length, drop}
use Rattle.mx_image.specs.Labels.{labels_of}
use Rattle.mx_image.specs.Image.{names, symbols_from}
use Rattle.mx_image.proofs.parts.put_symbols.Given as goal

abbrev pub invariant-labels : goal.invariant-labels
invariant-labels l = record {
  out : l.out ++ symbols_from l.at (labels_of (drop l.label-index l.labels)) ≡ l.initial.out ++ symbols_from 1 (labels_of l.labels);
  room : length l.out + 16 * length (drop l.label-index l.labels) ≤ 2 ^ 31;
  at : l.at + length (names (labels_of (drop l.label-index l.labels))) ≡ 1 + length (names (labels_of l.labels));
}
