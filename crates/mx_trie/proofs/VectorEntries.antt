-- The entry that is made for a line of a page that has a vector stands for the line.
use Rattle.std.proofs.Common.{◌≡◌, ℕ, ◌+◌, ◌-◌, ◌*◌, ◌/◌, ◌%◌, ◌<◌, ◌≤◌, min, List, length, arith}
use Rattle.mx_words.specs.declared.perm.Perm.{Perm}
use Rattle.mx_words.specs.declared.tables.Kind.{Kind}
use Rattle.mx_words.specs.Runs.{page_words}
use Rattle.mx_words.specs.Reach.{vector, line_at}
use Rattle.mx_words.specs.Blocks.{IsEven}
use Rattle.mx_trie.specs.declared.laying.Outer.{Outer}
use Rattle.mx_trie.specs.Filled.{flat_line}
use Rattle.mx_trie.specs.Leaf.{IsTrieKind, form_reach, leaf_entry}
use Rattle.mx_trie.specs.Walk.{Frames, vector_perm}
use Rattle.mx_trie.specs.Shown.{IsLine}
use Rattle.mx_trie.specs.Laying.{IsOuter}
use Rattle.mx_trie.specs.Steps.{IsBeforeEighth, IsBehindEighth}
use Rattle.mx_trie.proofs.FlatLaws.{page-part, even-line, flat-line-shown}
use Rattle.mx_trie.proofs.LineReaches.{left-out, right-out}
use Rattle.mx_trie.proofs.VectorLines.{vector-left, vector-right}

module _ (kind : Kind) (k : IsTrieKind kind) (m : List Perm) (spill : Frames) (y entry j : ℕ) (inside : j < 64)
    (even : IsEven m (y * page_words) 128) (is : entry ≡ vector page_words m (y * page_words))
    (p : Perm) (told : vector_perm entry (j / 8) ≡ p) (e : ℕ) where
  perms : line_at m ((y * 64 + j) * 16) ≡ flat_line p
  perms =
      (let at : (y * 64 + j) % 64 / 8 ≡ j / 8 = omega arith in
      cc (even-line m y (y * 64 + j) (omega arith) even, page-part m y (j / 8) entry (omega arith) even is))

  pub vector-line-out : length m ≤ (y * 64 + j) * 16 → ((n : ℕ) → e ≡ leaf_entry kind (flat_line p) 0 0 n) →
      IsLine kind spill m (y * 64 + j) e
  vector-line-out past made =
      flat-line-shown kind k spill m (y * 64 + j) p 0 0 e perms (left-out kind m (y * 64 + j) past) (right-out kind m (y * 64 + j) past)
      made

  pub vector-line-in : (outer : Outer) → IsOuter kind m y outer → (y * 64 + j) * 16 < length m →
      (before behind left right : ℕ) →
      IsBeforeEighth entry (j / 8) outer.left (form_reach kind) before →
      IsBehindEighth entry (j / 8) outer.right (form_reach kind) behind →
      left ≡ min (j % 8 * 16 + before) (form_reach kind) →
      right ≡ min (min ((7 - j % 8) * 16 + behind) (form_reach kind)) (length m - ((y * 64 + j) * 16 + 16)) →
      ((n : ℕ) → e ≡ leaf_entry kind (flat_line p) left right n) → IsLine kind spill m (y * 64 + j) e
  vector-line-in outer known within before behind left right b a l r made =
      let n : ℕ = y * 64 + j in
      let out = vector-left kind k m y entry even is outer known (j / 8) (omega arith) n (omega arith) (omega arith) before within b in
      let end = vector-right kind k m y entry even is outer known (j / 8) (omega arith) n (omega arith) (omega arith) behind within a in
      flat-line-shown kind k spill m n p left right e perms (omega arith) (omega arith) made
