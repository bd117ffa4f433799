use Rattle.std.proofs.Common.{◌≡◌, ℕ, ◌<◌, ◌&&◌, not, false}
use Rattle.mx_any.specs.Machines.{meaning}
use Rattle.mx_touched.specs.Pairs.{flat_agrees, is_compared}
use Rattle.mx_twin.proofs.compare.fails.Given as goal

abbrev pub invariant-loop-hart : goal.invariant-loop-hart
invariant-loop-hart l = (k : ℕ) → k < l.hart →
    is_compared l.domain (meaning l.a) (meaning l.b) k && not (flat_agrees (meaning l.a) (meaning l.b) k) ≡ false
