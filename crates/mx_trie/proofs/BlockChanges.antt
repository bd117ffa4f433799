-- Blocks of any size that a range covers, and blocks beside it.
use Rattle.std.proofs.Common.{◌≡◌, ℕ, ◌+◌, ◌*◌, ◌/◌, ◌<◌, ◌≤◌, false, List, arith}
use Rattle.std.proofs.Math.Nat.{mul_comm}
use Rattle.std.proofs.lemmas.Nat.{mul-add-lt}
use Rattle.std.proofs.lemmas.List.{ext_get_or}
use Rattle.std.proofs.lemmas.List.FromFn.{get_or-map-range_with_len, length-map-range_with_len}
use Rattle.mx_words.specs.declared.perm.Perm.{Perm}
use Rattle.mx_words.specs.declared.tables.Kind.{Kind}
use Rattle.mx_words.specs.Rights.{number, perm_at}
use Rattle.mx_words.specs.Reach.{vector}
use Rattle.mx_words.specs.Blocks.{is_broken}
use Rattle.mx_words.proofs.BlockLaws.{is_broken-same}
use Rattle.mx_trie.specs.declared.laying.Laying.{Laying}
use Rattle.mx_trie.specs.declared.laying.Beside.{Beside}
use Rattle.mx_trie.specs.Filled.{flat_vector}
use Rattle.mx_trie.specs.Ranges.{IsApart}
use Rattle.mx_trie.specs.Laying.{laid_by, IsBeside}
use Rattle.mx_trie.proofs.RangeLaws.{with_range-below, with_range-in, with_range-behind, length-with_range}
use Rattle.mx_trie.proofs.WideBlocks.{uniform-whole, uniform-vector}

-- a block of which all words lie in the range
module _ (kind : Kind) (m : List Perm) (lay : Laying) (b : Beside) (known : IsBeside kind m lay b) (size part y : ℕ)
    (is : size / 8 ≡ part) (eight : size ≡ 8 * part) (some : 0 < part)
    (from : lay.first ≤ y * size) (to : y * size + size ≤ lay.end) where
  word : (k : ℕ) → k < size → perm_at (laid_by lay m) (y * size + k) ≡ lay.perm
  word k below = search (arith, with_range-in, lay.first, lay.end, lay.perm)

  pub cover-whole : is_broken size (laid_by lay m) y ≡ false
  cover-whole = uniform-whole size part (laid_by lay m) y lay.perm is eight some word

  pub cover-vector : flat_vector (number lay.perm) ≡ vector size (laid_by lay m) (y * size)
  cover-vector = uniform-vector size part (laid_by lay m) y lay.perm is eight some word

-- a block beside the range is as it was
module _ (lay : Laying) (m : List Perm) where
  apart-word : (size y : ℕ) → IsApart lay.first lay.end (y * size) (y * size + size) → (k : ℕ) → k < size →
      perm_at (laid_by lay m) (y * size + k) ≡ perm_at m (y * size + k)
  apart-word size y apart k below = search (arith, with_range-below, lay.first, lay.end, lay.perm, with_range-behind)

  pub apart-broken : (size y : ℕ) → IsApart lay.first lay.end (y * size) (y * size + size) →
      is_broken size (laid_by lay m) y ≡ is_broken size m y
  apart-broken size y apart =
      is_broken-same size (laid_by lay m) m y (length-with_range lay.first lay.end lay.perm m) (apart-word size y apart)

  pub apart-vector : (size part y : ℕ) → IsApart lay.first lay.end (y * size) (y * size + size) → size / 8 ≡ part →
      size ≡ 8 * part → 0 < part →
      vector size (laid_by lay m) (y * size) ≡ vector size m (y * size)
  apart-vector size part y apart is eight some =
      search (arith, ext_get_or, length-map-range_with_len, mul-add-lt, mul_comm, get_or-map-range_with_len, apart-word)
