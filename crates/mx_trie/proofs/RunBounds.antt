-- A run of equal permissions, given by the same permission inside and another one at both edges.
use Rattle.std.proofs.Common.{◌≡◌, ℕ, ◌-◌, ◌<◌, ◌≤◌, true, false, List, length, arith}
use Rattle.mx_words.specs.declared.perm.Perm.{Perm}
use Rattle.mx_words.specs.Rights.{same, perm_at}
use Rattle.mx_words.specs.Reach.{span_within}
use Rattle.mx_words.proofs.RunLaws.{same_eq, span_within_is}

-- word i's run among the words from low up to high goes from `first` up to `last`
pub record IsRunIn (m : List Perm) (low high i first last : ℕ) : Type 0 where
  pub from : low ≤ first
  pub begun : first ≤ i
  pub ended : i < last
  pub up_to : last ≤ high
  pub in_map : high ≤ length m
  pub inside : (k : ℕ) → first ≤ k → k < last → same (perm_at m i) (perm_at m k) ≡ true
  pub before : low < first → same (perm_at m i) (perm_at m (first - 1)) ≡ false
  pub behind : last < high → same (perm_at m i) (perm_at m last) ≡ false

pub span_within-is : (m : List Perm) (low high i first last : ℕ) → IsRunIn m low high i first last →
    span_within m low high i ≡ record { first = first; count = last - first; perm = perm_at m i }
span_within-is m low high i first last r = search (arith, span_within_is, same_eq, r.inside, r.before, r.behind)
