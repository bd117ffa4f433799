-- The lines of a page that has a vector: their permissions and their reaches.
use Rattle.std.proofs.Common.{◌≡◌, ℕ, ◌+◌, ◌-◌, ◌*◌, ◌/◌, ◌%◌, ◌<◌, ◌≤◌, inl, inr, min, List, length, arith}
use Rattle.std.proofs.lemmas.Bool.{cases_eq, cases_lt}
use Rattle.mx_words.specs.declared.perm.Perm.{Perm}
use Rattle.mx_words.specs.declared.tables.Kind.{Kind}
use Rattle.mx_words.specs.Rights.{number, perm_at}
use Rattle.mx_words.specs.Runs.{page_words}
use Rattle.mx_words.specs.Reach.{vector}
use Rattle.mx_words.specs.Blocks.{IsEven}
use Rattle.mx_words.proofs.NumberLaws.{number-one_to_one}
use Rattle.mx_trie.specs.declared.laying.Outer.{Outer}
use Rattle.mx_trie.specs.Leaf.{IsTrieKind, form_reach}
use Rattle.mx_trie.specs.Walk.{map_left, map_right, vector_perm}
use Rattle.mx_trie.specs.Laying.{back, ahead, IsOuter}
use Rattle.mx_trie.specs.Steps.{IsBeforeEighth, IsBehindEighth}
use Rattle.mx_trie.proofs.Backs.{is-ahead, back-along, back-other, ahead-along, ahead-other}
use Rattle.mx_trie.proofs.LineReaches.{left-back, right-ahead}
use Rattle.mx_trie.proofs.FlatLaws.{page-part}

-- the greatest reach of an entry is less than an eighth of a page
pub reach-small : (kind : Kind) → IsTrieKind kind → form_reach kind ≤ 31
reach-small kind x = grind arith

module _ (kind : Kind) (k : IsTrieKind kind) (m : List Perm) (y : ℕ) (entry : ℕ)
    (even : IsEven m (y * page_words) 128) (is : entry ≡ vector page_words m (y * page_words))
    (outer : Outer) (known : IsOuter kind m y outer) (part : ℕ) (below : part < 8) where
  -- the words of an eighth have its permission
  word-of : (e i : ℕ) → e < 8 → y * 1024 + e * 128 ≤ i → i < y * 1024 + e * 128 + 128 →
      perm_at m i ≡ vector_perm entry e
  word-of e i less from to =
      (let h = (even.parts e less).alike (i - (y * 1024 + e * 128)) (omega arith) in grind (arith, page-part m y e entry less even is))

  -- how many words before the eighth have its permission
  before-is : (count : ℕ) → y * 1024 + part * 128 < length m →
      IsBeforeEighth entry part outer.left (form_reach kind) count →
      count ≡ back (form_reach kind) (vector_perm entry part) m (y * 1024 + part * 128)
  before-is count inside b =
      let n : ℕ = y * 1024 + part * 128 in
      let r : ℕ = form_reach kind in let p : Perm = vector_perm entry part in elim (cases_eq part 0) [
        | inl h ↦ search (arith, b.first, left-back, word-of)
        | inr h ↦ let last = word-of (part - 1) (n - 1) (omega arith) (omega arith) (omega arith) in
            elim (cases_eq (number (vector_perm entry (part - 1))) (number p)) [
              | inl g ↦ (let e = number-one_to_one _ _ g in omega (
                arith,
                reach-small kind k,
                b.same,
                back-along r p m (n - 128) n (omega arith) (omega arith)
                    (search (arith, word-of (part - 1))),
              ))
              | inr g ↦ omega (arith, b.other (omega arith) (λ e. g (cc)), back-other r p m n (omega arith) (omega arith) (λ e. g (cc)))
            ]
      ]

  -- how many words behind it have its permission
  behind-is : (count : ℕ) → IsBehindEighth entry part outer.right (form_reach kind) count →
      min count (length m - (y * 1024 + part * 128 + 128)) ≡ ahead (form_reach kind)
      (vector_perm entry part) m (y * 1024 + part * 128 + 128)
  behind-is count b =
      search (
        arith,
        cases_eq,
        is-ahead,
        word-of,
        b.last,
        right-ahead,
        cases_lt,
        number-one_to_one,
        reach-small,
        ahead-along,
        b.same,
        ahead-other,
        b.other,
      )

  -- the reaches of a line of the eighth
  module _ (z : ℕ) (page : z / 64 ≡ y) (at : z / 8 % 8 ≡ part) where
    pub vector-left : (count : ℕ) → z * 16 < length m → IsBeforeEighth entry part outer.left (form_reach kind) count →
        map_left kind m z ≡ min (z % 8 * 16 + count) (form_reach kind)
    vector-left count inside b =
        search (
          arith,
          before-is,
          left-back,
          word-of,
          back-along (form_reach kind) (vector_perm entry part) m (y * 1024 + part * 128)
              (z * 16) (omega arith) (omega arith) (search (arith, word-of)),
        )

    pub vector-right : (count : ℕ) → z * 16 < length m → IsBehindEighth entry part outer.right (form_reach kind) count →
        map_right kind m z ≡ min (min ((7 - z % 8) * 16 + count) (form_reach kind)) (length m - (z * 16 + 16))
    vector-right count inside b = let r : ℕ = form_reach kind in let p : Perm = vector_perm entry part in
        let along = ahead-along r p m (z * 16 + 16) (y * 1024 + part * 128 + 128) (omega arith) (search (arith, word-of)) in
        let next = behind-is count b in
        let here : perm_at m (z * 16 + 15) ≡ p = word-of part (z * 16 + 15) below (omega arith) (omega arith) in
        let end = rw here at (right-ahead kind m z inside) in omega arith
