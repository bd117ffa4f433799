use Rattle.std.proofs.Common.{length-drop, arith}
use Rattle.mx_words.proofs.NumberLaws.{packed-below, number-small}
use Rattle.mx_trie.proofs.vector.pack_line.Goals as goal

pub overflow_mul-word : goal.overflow_mul-word
overflow_mul-word c = search (arith, c.loop-place.place, packed-below, length-drop)

pub overflow_add-word : goal.overflow_add-word
overflow_add-word c =
    search (arith, c.loop-place.place, packed-below, length-drop, c.number.result, c.number.ensures, number-small)
