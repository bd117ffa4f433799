-- Blocks of which all words have one permission, and eighths of a region, told by the entries of its pages.
use Rattle.std.proofs.Common.{◌≡◌, ℕ, suc, ◌+◌, ◌*◌, ◌/◌, ◌^◌, ◌<◌, false, List, Some, refl, arith}
use Rattle.std.proofs.Math.Nat.{pow-suc, mul_comm}
use Rattle.std.proofs.lemmas.Nat.{mul-add-lt}
use Rattle.mx_words.specs.declared.perm.Perm.{Perm}
use Rattle.mx_words.specs.declared.tables.Kind.{Kind}
use Rattle.mx_words.specs.Rights.{number, perm_at}
use Rattle.mx_words.specs.Reach.{vector}
use Rattle.mx_words.specs.Blocks.{is_broken}
use Rattle.mx_words.proofs.BlockLaws.{whole-even}
use Rattle.mx_words.proofs.NumberLaws.{number-small, number-one_to_one}
use Rattle.mx_pool.specs.Frames.{word_at}
use Rattle.mx_trie.specs.Digits.{digit}
use Rattle.mx_trie.specs.Filled.{flat_vector}
use Rattle.mx_trie.specs.Walk.{Frames}
use Rattle.mx_trie.specs.Shown.{ArePages}
use Rattle.mx_trie.specs.Steps.{IsPermOf}
use Rattle.mx_trie.proofs.Digits.{flat-digits}
use Rattle.mx_trie.proofs.EvenLines.{perm-some}
use Rattle.mx_trie.proofs.VectorWords.{page-word}
use Rattle.mx_trie.proofs.EvenTables.{uniform-from}
use Rattle.mx_trie.proofs.FlatLaws.{flat-closed, packed-flat, eighths-alike}

-- a block of one permission
module _ (size part : ℕ) (m : List Perm) (b : ℕ) (p : Perm) (is : size / 8 ≡ part) (eight : size ≡ 8 * part)
    (some : 0 < part)
    (alike : (k : ℕ) → k < size → perm_at m (b * size + k) ≡ p) where
  pub uniform-whole : is_broken size m b ≡ false
  uniform-whole = search (arith, whole-even, uniform-from)

  pub uniform-vector : flat_vector (number p) ≡ vector size m (b * size)
  uniform-vector = search (arith, packed-flat, eighths-alike, mul-add-lt, mul_comm)

-- the digits of a vector of one permission
pub flat-digit : (n e : ℕ) → n < 4 → e < 8 → digit (flat_vector n / 4) e ≡ n
flat-digit n e small below = search (arith, flat-digits)

-- an eighth of a region
module _ (kind : Kind) (upper leaf spill : Frames) (m : List Perm) (x frame part : ℕ) (below : part < 8)
    (pages : ArePages kind upper leaf spill m x frame) where
  -- its pages have one vector of one permission
  pub wide-some : (p : Perm) → ((j : ℕ) → j < 128 → word_at upper frame (128 * part + j) ≡ flat_vector (number p)) →
      IsPermOf m (x * 1048576 + part * 131072) 131072 (Some p)
  wide-some p words = perm-some m (x * 1048576 + part * 131072) 131072 p (λ k inside. let page =
      rw (words (k / 1024) (omega arith)) at (pages (128 * part + k / 1024) (omega arith)) in
      let told = page-word kind upper leaf spill m _ _ (flat-closed (number p)) page (x * 1048576 + part * 131072 + k) (omega arith) in
      search (arith, number-one_to_one, told, flat-digit, number-small))

  -- its words have one permission
  pub wide-word : ((k : ℕ) → k < 131072 →
      perm_at m (x * 1048576 + part * 131072 + k) ≡ perm_at m (x * 1048576 + part * 131072)) →
      (j : ℕ) → j < 128 →
      word_at upper frame (128 * part + j) ≡ flat_vector (number (perm_at m (x * 1048576 + part * 131072)))
  wide-word alike j inside =
      let y : ℕ = x * 1024 + (128 * part + j) in let page = pages (128 * part + j) (omega arith) in
      let words : (k : ℕ) → k < 1024 → perm_at m (y * 1024 + k) ≡ perm_at m (x * 1048576 + part * 131072) =
      λ k low. grind (arith, alike (j * 1024 + k)) in
      search (
        arith,
        uniform-whole 1024 128 m y _ refl refl (omega arith) words,
        uniform-vector 1024 128 m y _ refl refl (omega arith)
            words,
        page.vector_is,
      )

-- a number of e digits of two bits, with one more digit
pub digits-more : (e n d : ℕ) → n < 2 ^ (2 * e) → d < 4 → d + 4 * n < 2 ^ (2 * (e + 1))
digits-more e n d small digit =
    let next : 2 * (e + 1) ≡ suc (suc (2 * e)) = omega arith in
    rw next (omega (arith, pow-suc 2 (suc (2 * e)), pow-suc 2 (2 * e)))
