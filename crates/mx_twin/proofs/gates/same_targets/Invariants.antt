use Rattle.std.proofs.Common.{◌≡◌, ℕ, ◌<◌, ◌≤◌, true}
use Rattle.mx_any.specs.Machines.{meaning}
use Rattle.mx_laws.specs.Comparison.{same_target}
use Rattle.mx_twin.proofs.gates.same_targets.Given as goal

abbrev pub invariant-loop-word : goal.invariant-loop-word
invariant-loop-word l = (k : ℕ) → l.first ≤ k → k < l.word → same_target (meaning l.a).core (meaning l.b).core l.domain k ≡ true
