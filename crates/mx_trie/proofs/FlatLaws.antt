-- Lines and pages of one permission, as the parts of a page and of a region that have a vector.
use Rattle.std.proofs.Common.{◌≡◌, ℕ, ◌+◌, ◌*◌, ◌/◌, ◌%◌, ◌<◌, false, List, replicate, None, refl, ap, arith}
use Rattle.std.proofs.Math.Nat.{mul_comm}
use Rattle.std.proofs.lemmas.Bool.{ne_eqb}
use Rattle.std.proofs.lemmas.List.{ext_get_or, get_or-replicate}
use Rattle.mx_words.specs.declared.perm.Perm.{Perm}
use Rattle.mx_words.specs.declared.perm.Perm.TheVariants as P
use Rattle.mx_words.specs.declared.tables.Kind.{Kind}
use Rattle.mx_words.specs.Rights.{number, perm_at}
use Rattle.mx_words.specs.Runs.{line_words, page_words, region_words}
use Rattle.mx_words.specs.Reach.{vector, line_at, packed, eighths}
use Rattle.mx_words.specs.Blocks.{IsEven}
use Rattle.mx_words.proofs.BlockLaws.{uniform-even}
use Rattle.mx_trie.specs.Digits.{digit}
use Rattle.mx_trie.specs.Filled.{flat_line, flat_vector}
use Rattle.mx_trie.specs.Leaf.{IsTrieKind, needs_spill, leaf_entry, spill_number}
use Rattle.mx_trie.specs.Walk.{Frames, is_pointer, vector_perm, line_number, map_left, map_right}
use Rattle.mx_trie.specs.Shown.{IsLine}
use Rattle.mx_words.proofs.NumberLaws.{from_number-number}
use Rattle.mx_trie.proofs.FoundSpans.{vector-digit}
use Rattle.mx_trie.proofs.LeafSpans.{length-line, line-at}
use Rattle.mx_trie.proofs.EntryLaws.{named-by}

-- a line of one permission has one run, and its entry names no spill word
pub flat-needs : (kind : Kind) (p : Perm) → needs_spill kind (flat_line p) ≡ false
flat-needs x p = grind arith

pub flat-spill : (kind : Kind) → IsTrieKind kind → (p : Perm) (left right spill e : ℕ) →
    e ≡ leaf_entry kind (flat_line p) left right spill → spill_number kind e ≡ None
flat-spill kind k p left right spill e is = grind (arith, named-by)

-- a line of one permission, by its entry
pub flat-line-shown : (kind : Kind) → IsTrieKind kind →
    (spill : Frames) (m : List Perm) (z : ℕ) (p : Perm) (left right e : ℕ) →
    line_at m (z * line_words) ≡ flat_line p →
    map_left kind m z ≡ left → map_right kind m z ≡ right →
    ((n : ℕ) → e ≡ leaf_entry kind (flat_line p) left right n) → IsLine kind spill m z e
flat-line-shown kind k spill m z p left right e is l r made =
    search (arith, is, l, r, made (line_number kind e), flat-spill kind k p left right 0 e (made 0), flat-needs)

-- a line of an even page has the permission of its part
pub even-line : (m : List Perm) (y z : ℕ) → z / 64 ≡ y → IsEven m (y * page_words) 128 →
    line_at m (z * line_words) ≡ flat_line (perm_at m (y * page_words + z % 64 / 8 * 128))
even-line m y z at even = ext_get_or P.None (line_at m (z * line_words)) (flat_line _) (length-line m z) (λ i below.
    let here : z * 16 + i ≡ y * 1024 + z % 64 / 8 * 128 + (z % 8 * 16 + i) = omega arith in
    let part = even.parts (z % 64 / 8) (omega arith) in
    search (arith, line-at m z i, here, length-line m z, part.alike (z % 8 * 16 + i), get_or-replicate))

-- the digit of a part in the vector of an even block is the number of the part's permission
pub vector-part : (size part : ℕ) (m : List Perm) (b e k entry : ℕ) → size / 8 ≡ part →
    (b * size + e * part + k) / size ≡ b → e < 8 → k < part →
    IsEven m (b * size) part → entry ≡ vector size m (b * size) →
    digit (entry / 4) e ≡ number (perm_at m (b * size + e * part + k))
vector-part size part m b e k entry is at below inside even entry_is =
    vector-digit size part m _ e k entry is (record { even = rw at even; entry_is = rw at entry_is }) below inside
    (omega (arith, ap (λ n. n * size) at, mul_comm e part))

-- the permission of an eighth by the vector
pub page-part : (m : List Perm) (y part entry : ℕ) → part < 8 → IsEven m (y * page_words) 128 →
    entry ≡ vector page_words m (y * page_words) →
    vector_perm entry part ≡ perm_at m (y * page_words + part * 128)
page-part m y part entry below even entry_is =
    search (arith, from_number-number, vector-part 1024 128 m y part 0 entry refl (omega arith) below (omega arith) even entry_is)

-- the vector of a block of one permission
pub eighths-alike : (size : ℕ) (m : List Perm) (first : ℕ) (p : Perm) →
    ((e : ℕ) → e < 8 → perm_at m (first + size / 8 * e) ≡ p) → eighths size m first ≡ replicate 8 p
eighths-alike size m first p alike = search (arith, alike)

-- a word of a page of an even region
region-page-word : (m : List Perm) (x y i : ℕ) → y / 1024 ≡ x → IsEven m (x * region_words) 131072 → i / 1024 ≡ y →
    perm_at m i ≡ perm_at m (x * 1048576 + y % 1024 / 128 * 131072 + 0)
region-page-word m x y i at even here =
    let part = even.parts (y % 1024 / 128) (omega arith) in search (arith, part.alike (i % 131072), part.alike 0)

-- it is no pointer
pub flat-closed : (n : ℕ) → is_pointer (flat_vector n) ≡ false
flat-closed n = ne_eqb (flat_vector n % 4) 0 (λ h. omega arith)

pub packed-flat : (p : Perm) (n : ℕ) → n ≡ number p → flat_vector n ≡ 1 + 4 * packed (replicate 8 p)
packed-flat p n is = omega arith

-- a page of an even region is even, and has one permission
pub region-page-even : (m : List Perm) (x y : ℕ) → y / 1024 ≡ x → IsEven m (x * region_words) 131072 →
    IsEven m (y * page_words) 128
region-page-even m x y at even =
    uniform-even m (y * 1024) 128 (record {
      alike = λ k below.
          cc (region-page-word m x y (y * 1024 + k) at even (omega arith), region-page-word m x y (y * 1024) at even (omega arith));
    })

pub region-page-vector : (m : List Perm) (x y entry : ℕ) → y / 1024 ≡ x → IsEven m (x * region_words) 131072 →
    entry ≡ vector region_words m (x * region_words) →
    flat_vector (digit (entry / 4) (y % 1024 / 128)) ≡ vector page_words m (y * page_words)
region-page-vector m x y entry at even entry_is =
    let d = vector-part 1048576 131072 m x (y % 1024 / 128) 0 entry refl (omega arith) (omega arith) (omega arith) even entry_is in
    cc (
      packed-flat _ (digit (entry / 4) (y % 1024 / 128)) d,
      eighths-alike 1024 m (y * 1024) _ (λ e below.
          region-page-word m x y (y * 1024 + 128 * e) at even (omega arith)),
    )
