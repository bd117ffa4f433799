-- Reaches by a map with a permission laid over a range, told by the old map's and by what lies beside the range.
use Rattle.std.proofs.Common.{◌≡◌, ℕ, ◌+◌, ◌-◌, ◌<◌, ◌≤◌, min, List, length, arith}
use Rattle.mx_words.specs.declared.perm.Perm.{Perm}
use Rattle.mx_words.specs.Rights.{perm_at}
use Rattle.mx_trie.specs.Laying.{with_range, back, ahead}
use Rattle.mx_trie.proofs.Backs.{is-back, is-ahead}
use Rattle.mx_trie.proofs.RangeLaws.{with_range-below, with_range-in, with_range-behind, length-with_range}

-- maps that are alike in the words that a reach goes over, and in the word where it ends, have the same reach
pub back-same : (most : ℕ) (q : Perm) (m n : List Perm) (at : ℕ) → at ≤ length m → at ≤ length n →
    ((k : ℕ) → k < at → at ≤ k + back most q m at + 1 → at ≤ k + most → perm_at n k ≡ perm_at m k) →
    back most q n at ≡ back most q m at
back-same most q m n at a b agree = grind (arith, is-back)

pub ahead-same : (most : ℕ) (q : Perm) (m n : List Perm) (at : ℕ) → length m ≡ length n →
    ((k : ℕ) → at ≤ k → k ≤ at + ahead most q m at → k < at + most → perm_at n k ≡ perm_at m k) →
    ahead most q n at ≡ ahead most q m at
ahead-same most q m n at a agree = grind (arith, is-ahead)

module _ (m : List Perm) (first end : ℕ) (p : Perm) (order : first < end) (inside : end ≤ length m) (most : ℕ) where
  -- behind the range's first word, where all words from the range on have the permission
  pub back-through : (at : ℕ) → first ≤ at → at ≤ length m → ((k : ℕ) → end ≤ k → k < at → perm_at m k ≡ p) →
      min most (at - first + back most p m first) ≡ back most p (with_range first end p m) at
  back-through at from to on =
      grind (arith, is-back, length-with_range, with_range-below, with_range-in, with_range-behind)

  pub ahead-through : (at : ℕ) → at ≤ end → ((k : ℕ) → at ≤ k → k < first → perm_at m k ≡ p) →
      min most (end - at + ahead most p m end) ≡ ahead most p (with_range first end p m) at
  ahead-through at to on =
      grind (arith, is-ahead, length-with_range, with_range-below, with_range-in, with_range-behind)
