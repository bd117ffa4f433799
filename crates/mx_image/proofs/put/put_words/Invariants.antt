use Rattle.std.proofs.Common.{◌≡◌, ◌++◌, take}
use Rattle.mx_image.specs.Image.{words}
use Rattle.mx_image.proofs.put.put_words.Given as goal

abbrev pub invariant-numbers : goal.invariant-numbers
invariant-numbers l = l.out ≡ l.initial.out ++ words (take l.word-index l.numbers)
