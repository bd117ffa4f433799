use Rattle.std.proofs.Common.{arith, length-take, length-drop, length-append}
use Rattle.std.proofs.lemmas.List.{get_or_append_left, get_or-append_right, get_or-take, get_or-drop}
use Rattle.mx_pool.proofs.fill_words.Goals as goal

pub returns : goal.returns
returns c = record {
  total = simp (length-append, length-take, length-drop) (omega arith);
  inside = λ i low high. grind (arith, get_or_append_left, get_or-append_right, length-take);
  below = λ i low. grind (arith, get_or_append_left, get_or-take, length-take);
  behind = λ i high. grind (arith, get_or-append_right, get_or-drop, length-take);
}
