use Rattle.std.proofs.Common.{◌≡◌, ◌++◌, take}
use Rattle.mx_image.specs.Image.{halves}
use Rattle.mx_image.proofs.put.put_halves.Given as goal

abbrev pub invariant-numbers : goal.invariant-numbers
invariant-numbers l = l.out ≡ l.initial.out ++ halves (take l.half-index l.numbers)
