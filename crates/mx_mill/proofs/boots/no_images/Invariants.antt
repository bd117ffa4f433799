use Rattle.std.proofs.Common.{◌≡◌, [], replicate}
use Rattle.mx_mill.proofs.boots.no_images.Given as goal

abbrev pub invariant-modules : goal.invariant-modules
invariant-modules l = l.images.items ≡ replicate l.counter []
