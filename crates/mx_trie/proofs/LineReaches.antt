-- The reaches of a line's entry by a map, as numbers of words beside the line, before and after a change.
use Rattle.std.proofs.Common.{◌≡◌, ◌≢◌, ℕ, ◌+◌, ◌-◌, ◌*◌, ◌<◌, ◌≤◌, min, List, length, arith}
use Rattle.std.proofs.lemmas.Bool.{cases_lt}
use Rattle.mx_words.specs.declared.perm.Perm.{Perm}
use Rattle.mx_words.specs.declared.tables.Kind.{Kind}
use Rattle.mx_words.specs.Rights.{perm_at}
use Rattle.mx_trie.specs.declared.laying.Laying.{Laying}
use Rattle.mx_trie.specs.declared.laying.Beside.{Beside}
use Rattle.mx_trie.specs.Leaf.{form_reach}
use Rattle.mx_trie.specs.Walk.{map_left, map_right}
use Rattle.mx_trie.specs.Laying.{laid_by, back, ahead, IsBeside}
use Rattle.mx_trie.proofs.Backs.{is-back, is-ahead}
use Rattle.mx_trie.proofs.RangeLaws.{with_range-below, with_range-in, with_range-behind, length-with_range}
use Rattle.mx_trie.proofs.LaidReaches.{back-same, back-through, ahead-same, ahead-through}

pub left-back : (kind : Kind) (m : List Perm) (z : ℕ) → z * 16 < length m →
    map_left kind m z ≡ back (form_reach kind) (perm_at m (z * 16)) m (z * 16)
left-back kind m z inside = grind arith

pub left-out : (kind : Kind) (m : List Perm) (z : ℕ) → length m ≤ z * 16 → map_left kind m z ≡ 0
left-out kind m z past = grind arith

pub right-ahead : (kind : Kind) (m : List Perm) (z : ℕ) → z * 16 < length m →
    map_right kind m z ≡ ahead (form_reach kind) (perm_at m (z * 16 + 15)) m (z * 16 + 16)
right-ahead kind m z inside = grind arith

pub right-out : (kind : Kind) (m : List Perm) (z : ℕ) → length m ≤ z * 16 → map_right kind m z ≡ 0
right-out kind m z past = grind arith

-- the reaches of line z after a change
module _ (kind : Kind) (m : List Perm) (lay : Laying) (b : Beside) (known : IsBeside kind m lay b) (z : ℕ) where
  -- a line that begins before the range, and one that begins in it
  pub left-before : z * 16 ≤ lay.first → z * 16 < lay.first → map_left kind (laid_by lay m) z ≡ map_left kind m z
  left-before le lt = search (arith, left-back, length-with_range, with_range-below, back-same)

  pub left-in : lay.first ≤ z * 16 → z * 16 < lay.end →
      map_left kind (laid_by lay m) z ≡ min (form_reach kind) (z * 16 - lay.first + b.before)
  left-in from to = search (arith, left-back, length-with_range, with_range-in, back-through)

  -- a line that begins behind the range
  pub left-outside : lay.end ≤ z * 16 → length m ≤ z * 16 → map_left kind m z ≡ map_left kind (laid_by lay m) z
  left-outside from past = search (arith, left-out, length-with_range)

  module _ (behind : lay.end ≤ z * 16) (inside : z * 16 < length m) where
    pub left-short : (old : ℕ) → old ≡ map_left kind m z → old < z * 16 - lay.end →
        old ≡ map_left kind (laid_by lay m) z
    left-short old is lt = search (arith, left-back, length-with_range, with_range-behind, back-same)

    pub left-other : (old : ℕ) → old ≡ map_left kind m z → z * 16 - lay.end ≤ old → lay.perm ≢ perm_at m (z * 16) →
        z * 16 - lay.end ≡ map_left kind (laid_by lay m) z
    left-other old is le other =
        grind (arith, left-back, with_range-behind, length-with_range, is-back, with_range-in lay.first lay.end lay.perm m (lay.end - 1))

    pub left-same : (old : ℕ) → old ≡ map_left kind m z → z * 16 - lay.end ≤ old → perm_at m (z * 16) ≡ lay.perm →
        min (form_reach kind) (z * 16 - lay.first + b.before) ≡ map_left kind (laid_by lay m) z
    left-same old is le same = grind (arith, left-back, with_range-behind, length-with_range, back-through, is-back)

  -- a line that ends behind the range, and one that ends in it
  pub right-behind : lay.end ≤ z * 16 + 15 → map_right kind (laid_by lay m) z ≡ map_right kind m z
  right-behind le = search (arith, cases_lt, right-ahead, right-out, length-with_range, with_range-behind, ahead-same)

  pub right-in : lay.first ≤ z * 16 + 15 → z * 16 + 16 ≤ lay.end →
      map_right kind (laid_by lay m) z ≡ min (form_reach kind) (lay.end - (z * 16 + 16) + b.behind)
  right-in from to = grind (arith, right-ahead, right-out, length-with_range, with_range-in, ahead-through)

  -- a line that ends before the range
  module _ (before : z * 16 + 16 ≤ lay.first) where
    pub right-short : (old : ℕ) → old ≡ map_right kind m z → old < lay.first - (z * 16 + 16) →
        old ≡ map_right kind (laid_by lay m) z
    right-short old is lt = search (arith, right-ahead, length-with_range, with_range-below, ahead-same)

    pub right-other : (old : ℕ) → old ≡ map_right kind m z → lay.first - (z * 16 + 16) ≤ old →
        lay.perm ≢ perm_at m (z * 16 + 15) → lay.first - (z * 16 + 16) ≡ map_right kind (laid_by lay m) z
    right-other old is le other =
        grind (arith, right-ahead, length-with_range, with_range-below, is-ahead, with_range-in lay.first lay.end lay.perm m lay.first)

    pub right-same : (old : ℕ) → old ≡ map_right kind m z → lay.first - (z * 16 + 16) ≤ old →
        perm_at m (z * 16 + 15) ≡ lay.perm →
        min (form_reach kind) (lay.end - (z * 16 + 16) + b.behind) ≡ map_right kind (laid_by lay m) z
    right-same old is le same = grind (arith, right-ahead, length-with_range, with_range-below, is-ahead, ahead-through)

  -- a line so far from the range that no reach comes to it
  pub left-far : lay.end ≤ z * 16 → form_reach kind ≤ z * 16 - lay.end →
      map_left kind (laid_by lay m) z ≡ map_left kind m z
  left-far from far = search (arith, cases_lt, left-back, left-out, length-with_range, with_range-behind, back-same)

  pub right-far : z * 16 + 16 ≤ lay.first → form_reach kind ≤ lay.first - (z * 16 + 16) →
      map_right kind (laid_by lay m) z ≡ map_right kind m z
  right-far before far = search (arith, right-ahead, length-with_range, with_range-below, ahead-same)
