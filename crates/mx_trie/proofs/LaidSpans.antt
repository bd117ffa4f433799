-- The spans of a map over which a permission is laid.
use Rattle.std.proofs.Common.{◌≡◌, ℕ, ◌+◌, ◌-◌, ◌<◌, ◌≤◌, min, max, List, length, arith}
use Rattle.mx_words.specs.declared.perm.Perm.{Perm}
use Rattle.mx_words.specs.declared.perm.Span.{Span}
use Rattle.mx_words.specs.Newest.{laid}
use Rattle.mx_words.specs.Changes.{grant_of}
use Rattle.mx_words.proofs.OverlayLaws.{laid_in, laid_below, laid_behind}
use Rattle.mx_table.specs.Tables.{most_words}
use Rattle.mx_trie.specs.Views.{IsRound}

module _ (m : List Perm) (first count : ℕ) (p : Perm) (inside : first + count ≤ length m)
    (few : length m ≤ most_words) (word : ℕ) where
  -- the range itself
  pub laid-round : first ≤ word → word < first + count →
      IsRound (laid (grant_of first count p) m) word (record { first = first; count = count; perm = p })
  laid-round from to = search (arith, laid_in)

  -- a span before the range, and one after it
  pub before-round : (s : Span) (end : ℕ) → IsRound m word s → word < first → end ≡ min (s.first + s.count) first →
      IsRound (laid (grant_of first count p) m) word (record { first = s.first; count = end - s.first; perm = s.perm })
  before-round s end r below e = search (arith, laid_below, r.alike)

  pub behind-round : (s : Span) (begin : ℕ) → IsRound m word s → first + count ≤ word →
      begin ≡ max s.first (first + count) →
      IsRound (laid (grant_of first count p) m) word (record { first = begin; count = s.first + s.count - begin; perm = s.perm })
  behind-round s begin r above e = search (arith, laid_behind, r.alike)
