use Rattle.std.proofs.Common.{◌≡◌, not}
use Rattle.mx_words.specs.Counting.{all_below}
use Rattle.mx_check.specs.Looks.{hart_forbids}
use Rattle.mx_check.proofs.harts.KeptHarts.is_forbidden.Given as goal

abbrev pub invariant-loop-i : goal.invariant-loop-i
invariant-loop-i g l = l.clear ≡ all_below l.i (λ i. not (hart_forbids l.hart l.span l.self i))
