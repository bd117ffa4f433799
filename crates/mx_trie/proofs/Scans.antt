-- What spans round words tell of a map: which words are alike, and how far they reach.
use Rattle.std.proofs.Common.{◌≡◌, ◌≢◌, ℕ, ◌+◌, ◌-◌, ◌*◌, ◌/◌, ◌<◌, ◌≤◌, ◌⊎◌, min, Bool, true, not, List, length, arith}
use Rattle.mx_words.specs.declared.perm.Perm.{Perm}
use Rattle.mx_words.specs.declared.perm.Span.{Span}
use Rattle.mx_words.specs.Rights.{perm_at}
use Rattle.mx_words.specs.Blocks.{is_broken, IsUniform, IsEven}
use Rattle.mx_words.proofs.BlockLaws.{even_from, even_is}
use Rattle.mx_trie.specs.Laying.{back, ahead}
use Rattle.mx_trie.specs.Views.{IsRound}
use Rattle.mx_trie.proofs.Backs.{back-is, ahead-is}

-- the words from `from` up to `to` have one permission
pub record IsAlike (m : List Perm) (from to : ℕ) (p : Perm) : Type 0 where
  pub alike : (k : ℕ) → from ≤ k → k < to → perm_at m k ≡ p

-- a span round a word has the word's permission
pub round-perm : (m : List Perm) (word : ℕ) (s : Span) → IsRound m word s → perm_at m word ≡ s.perm
round-perm m word s r = r.alike word r.from r.to

-- spans round two words of a uniform range have one permission
pub uniform-same : (m : List Perm) (first count at : ℕ) (s t : Span) → IsUniform m first count → first ≤ at →
    at < first + count → IsRound m first s → IsRound m at t → t.perm ≡ s.perm
uniform-same m first count at s t u le lt r q =
    search (arith, u.alike (at - first), round-perm m at t q, round-perm m first s r)

-- how many words beside a place have a permission: up to a span of another one, or as far as one looks
module _ (most : ℕ) (p : Perm) (m : List Perm) (at : ℕ) where
  module _ (begin : ℕ) (before : begin ≤ at) (inside : at ≤ length m) (a : IsAlike m begin at p) where
    pub back-ended : (s : Span) → 0 < begin → at - begin < most → IsRound m (begin - 1) s → s.perm ≢ p →
        at - begin ≡ back most p m at
    back-ended s some few r ne =
        grind (arith, back-is most p m at (at - begin) inside, a.alike, ne, round-perm m (begin - 1) s r)

    pub back-far : (begin ≡ 0) ⊎ (most ≤ at - begin) → min (at - begin) most ≡ back most p m at
    back-far why = grind (arith, back-is most p m at (min (at - begin) most) inside, a.alike)

  module _ (end : ℕ) (behind : at ≤ end) (a : IsAlike m at end p) where
    pub ahead-ended : (s : Span) → end < length m → end - at < most → IsRound m end s → s.perm ≢ p →
        end - at ≡ ahead most p m at
    ahead-ended s inside few r ne = grind (arith, ahead-is most p m at (end - at), a.alike, ne, round-perm m end s r)

    pub ahead-far : (length m ≤ end) ⊎ (most ≤ end - at) → min (min end (length m) - at) most ≡ ahead most p m at
    ahead-far why = search (arith, ahead-is most p m at (min (min end (length m) - at) most), a.alike, why)

-- whether a block is eighth-uniform, told by a test of its parts
pub even-tells : (size part : ℕ) (m : List Perm) (b : ℕ) (told : Bool) → size / 8 ≡ part → size ≡ 8 * part → 0 < part →
    (told ≡ true → IsEven m (b * size) part) → (IsEven m (b * size) part → told ≡ true) →
    told ≡ not (is_broken size m b)
even-tells size part m b told is eight some from to =
    grind (arith, from, to, even_is size part m b is eight some, even_from size part m b is eight some)
