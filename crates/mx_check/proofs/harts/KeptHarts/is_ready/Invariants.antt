use Rattle.std.proofs.Common.{◌≡◌}
use Rattle.mx_words.specs.Counting.{all_below}
use Rattle.mx_check.specs.Calls.{hart_lets_pass}
use Rattle.mx_check.proofs.harts.KeptHarts.is_ready.Given as goal

abbrev pub invariant-loop-i : goal.invariant-loop-i
invariant-loop-i g l = l.ready ≡ all_below l.i (hart_lets_pass l.hart l.flight l.self)
