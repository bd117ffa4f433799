use Rattle.std.proofs.Common.{◌≡◌, take}
use Rattle.mx_boot.proofs.images.Images.read.Given as goal

abbrev pub invariant-files : goal.invariant-files
invariant-files l = l.files.items ≡ take l.image-index l.images
