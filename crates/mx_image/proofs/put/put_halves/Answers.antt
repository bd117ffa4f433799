use Rattle.std.proofs.Common.{arith, take}
use Rattle.std.proofs.lemmas.List.{length-append, length-take}
use Rattle.mx_image.specs.Image.{halves}
use Rattle.mx_image.proofs.Sizes.{length-halves}
use Rattle.mx_image.proofs.put.put_halves.Goals as goal

pub extend_from_slice-requires : goal.extend_from_slice-requires
extend_from_slice-requires c =
    let taken = take c.numbers.half-index c.args.numbers.now in
    rw (c.numbers.invariant) (omega (
      arith,
      length-append c.args.out.now (halves taken),
      length-halves taken,
      length-take
          c.numbers.half-index c.args.numbers.now,
    ))
