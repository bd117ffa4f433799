use Rattle.std.proofs.Common.{arith, take}
use Rattle.std.proofs.lemmas.List.{length-append, length-take}
use Rattle.mx_image.specs.Image.{words}
use Rattle.mx_image.proofs.Sizes.{length-words}
use Rattle.mx_image.proofs.put.put_words.Goals as goal

pub extend_from_slice-requires : goal.extend_from_slice-requires
extend_from_slice-requires c =
    let taken = take c.numbers.word-index c.args.numbers.now in
    rw (c.numbers.invariant) (omega (
      arith,
      length-append c.args.out.now (words taken),
      length-words taken,
      length-take c.numbers.word-index
          c.args.numbers.now,
    ))
