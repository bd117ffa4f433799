use Rattle.std.proofs.Common.{◌≡◌, ◌+◌, length, drop}
use Rattle.mx_image.specs.Labels.{labels_of}
use Rattle.mx_image.specs.Image.{names}
use Rattle.mx_image.proofs.parts.names_size.Given as goal

abbrev pub invariant-labels : goal.invariant-labels
invariant-labels l = l.size + length (names (labels_of (drop l.label-index l.labels))) ≡ length (names (labels_of l.labels))
