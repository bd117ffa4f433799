-- Whether a block is eighth-uniform, told part by part.
use Rattle.std.proofs.Common.{◌≡◌, ℕ, ◌+◌, ◌*◌, ◌/◌, ◌<◌, true, false, List, Option, Some, None, arith}
use Rattle.mx_words.specs.declared.perm.Perm.{Perm}
use Rattle.mx_words.specs.Rights.{perm_at}
use Rattle.mx_words.specs.Reach.{vector}
use Rattle.mx_words.specs.Blocks.{is_broken, IsUniform, IsEven}
use Rattle.mx_words.proofs.BlockLaws.{even_from, even_is}
use Rattle.mx_trie.specs.Steps.{IsPermOf, IsEntryOf}

-- words of one permission
pub uniform-from : (m : List Perm) (first count : ℕ) (p : Perm) → 0 < count →
    ((k : ℕ) → k < count → perm_at m (first + k) ≡ p) → IsUniform m first count
uniform-from m first count p some alike = search arith

module _ (size part : ℕ) (m : List Perm) (b : ℕ) (is : size / 8 ≡ part) (eight : size ≡ 8 * part) (some : 0 < part)
  where
    -- a block that isn't broken is even
    pub even-of : is_broken size m b ≡ false → IsEven m (b * size) part
    even-of whole = search (arith, even_from)

    -- a part with more than one permission
    pub broken-by : (e : ℕ) (told : Option Perm) → e < 8 → IsPermOf m (b * size + e * part) part told → told ≡ None →
        is_broken size m b ≡ true
    broken-by e told below t none = grind (arith, even-of, t.mixed)

    pub entry-none : (told : Option ℕ) → is_broken size m b ≡ true → told ≡ None → IsEntryOf size m b told
    entry-none told broken none = cc

    -- all parts have one permission each
    pub whole-by : ((e : ℕ) → e < 8 → IsUniform m (b * size + e * part) part) → is_broken size m b ≡ false
    whole-by parts = search (arith, even_is)

    pub entry-some : (told : Option ℕ) (entry : ℕ) → is_broken size m b ≡ false → entry ≡ vector size m (b * size) →
        told ≡ Some entry → IsEntryOf size m b told
    entry-some told entry whole is_vector made = search arith
