use Rattle.std.proofs.Common.{◌≡◌, ℕ, ◌<◌, false}
use Rattle.mx_any.specs.Machines.{meaning}
use Rattle.mx_touched.specs.Pairs.{is_compared}
use Rattle.mx_twin.proofs.harts.any_compared.Given as goal

abbrev pub invariant-loop-hart : goal.invariant-loop-hart
invariant-loop-hart l = (k : ℕ) → k < l.hart → is_compared l.domain (meaning l.a) (meaning l.b) k ≡ false
