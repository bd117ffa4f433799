-- How many words right before a word have a permission, and how many from a word on, told by those words alone.
use Rattle.std.proofs.Common.{◌≡◌, ◌≢◌, ℕ, ◌+◌, ◌-◌, ◌<◌, ◌≤◌, min, List, length, take, drop, reverse, length-take, length-drop, arith}
use Rattle.std.proofs.lemmas.List.{get_or-drop, get_or-take, get_or-reverse, length-reverse}
use Rattle.std.proofs.lemmas.List.Sums.{prefix_len_passes, prefix_len_stops, prefix_len-le-length}
use Rattle.mx_words.specs.declared.perm.Perm.{Perm}
use Rattle.mx_words.specs.Rights.{same, perm_at}
use Rattle.mx_words.proofs.RunLaws.{same_eq, same_from}
use Rattle.mx_trie.specs.Laying.{back, ahead}

-- r words right before word `at` have permission p, and the one before them has another, where there is one to look at
pub record IsBack (most : ℕ) (p : Perm) (m : List Perm) (at r : ℕ) : Type 0 where
  pub few : r ≤ most
  pub within : r ≤ at
  pub alike : (k : ℕ) → at ≤ k + r → k < at → perm_at m k ≡ p
  pub stop : r < most → r < at → perm_at m (at - 1 - r) ≢ p

-- the same from word `at` on, up to RAM's end
pub record IsAhead (most : ℕ) (p : Perm) (m : List Perm) (at r : ℕ) : Type 0 where
  pub few : r ≤ most
  pub within : r ≤ length m - at
  pub alike : (k : ℕ) → at ≤ k → k < at + r → perm_at m k ≡ p
  pub stop : r < most → at + r < length m → perm_at m (at + r) ≢ p

-- and there is one such number, the one that was defined
pub is-ahead : (most : ℕ) (p : Perm) (m : List Perm) (at : ℕ) → IsAhead most p m at (ahead most p m at)
is-ahead most p m at =
    let there : (k : ℕ) → at ≤ k → perm_at m k ≡ perm_at (drop at m) (k - at) = search (arith, get_or-drop) in
    search (
      arith,
      there,
      prefix_len_passes (same p) (drop at m),
      prefix_len_stops (same p)
          (drop at m),
      same_eq,
      same_from,
      prefix_len-le-length (same p) (drop at m),
      length-drop at m,
    )

pub is-back : (most : ℕ) (p : Perm) (m : List Perm) (at : ℕ) → at ≤ length m → IsBack most p m at (back most p m at)
is-back most p m at inside =
    let there : (k : ℕ) → k < at → perm_at m k ≡ perm_at (reverse (take at m)) (at - 1 - k) =
    grind (arith, get_or-reverse, get_or-take, length-take) in
    grind (arith, is-ahead most p (reverse (take at m)) 0, there, length-reverse, length-take)

pub back-is : (most : ℕ) (p : Perm) (m : List Perm) (at r : ℕ) → at ≤ length m → IsBack most p m at r →
    r ≡ back most p m at
back-is most p m at r inside b = grind (arith, b.alike, b.stop, is-back)

pub ahead-is : (most : ℕ) (p : Perm) (m : List Perm) (at r : ℕ) → IsAhead most p m at r → r ≡ ahead most p m at
ahead-is most p m at r b = grind (arith, b.alike, b.stop, is-ahead)

-- words that have the permission between two places are counted with those beyond
pub back-along : (most : ℕ) (p : Perm) (m : List Perm) (at next : ℕ) → at ≤ next → next ≤ length m →
    ((k : ℕ) → at ≤ k → k < next → perm_at m k ≡ p) →
    min most (next - at + back most p m at) ≡ back most p m next
back-along most p m at next le inside alike = grind (arith, is-back)

pub back-other : (most : ℕ) (p : Perm) (m : List Perm) (at : ℕ) → 0 < at → at ≤ length m → perm_at m (at - 1) ≢ p →
    0 ≡ back most p m at
back-other most p m at some inside ne = grind (arith, is-back)

pub ahead-along : (most : ℕ) (p : Perm) (m : List Perm) (at next : ℕ) → at ≤ next →
    ((k : ℕ) → at ≤ k → k < next → perm_at m k ≡ p) →
    min (min most (next - at + ahead most p m next)) (length m - at) ≡ ahead most p m at
ahead-along most p m at next le alike = grind (arith, is-ahead)

pub ahead-other : (most : ℕ) (p : Perm) (m : List Perm) (at : ℕ) → perm_at m at ≢ p → 0 ≡ ahead most p m at
ahead-other most p m at ne = grind (arith, is-ahead)
