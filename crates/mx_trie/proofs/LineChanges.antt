-- The entry of a line after a change, with its spill word put in place.
use Rattle.std.proofs.Common.{◌≡◌, ◌≢◌, ℕ, ◌*◌, ◌≤◌, Bool, true, false, List, if◌then◌else◌, Option, Some, None, is_some, ap, arith}
use Rattle.mx_words.specs.declared.perm.Perm.{Perm}
use Rattle.mx_words.specs.declared.tables.Kind.{Kind}
use Rattle.mx_words.specs.Counting.{bit}
use Rattle.mx_words.specs.Reach.{packed, line_at}
use Rattle.mx_words.proofs.CountingLaws.{bit-le}
use Rattle.mx_pool.specs.Frames.{frame_at, IsTaken}
use Rattle.mx_trie.specs.declared.laying.Laying.{Laying}
use Rattle.mx_trie.specs.declared.laying.Beside.{Beside}
use Rattle.mx_trie.specs.Leaf.{IsTrieKind, needs_spill, leaf_entry, spill_number}
use Rattle.mx_trie.specs.Walk.{Frames, map_left, map_right}
use Rattle.mx_trie.specs.Shown.{IsLine}
use Rattle.mx_trie.specs.Spills.{IsSpillPut}
use Rattle.mx_trie.specs.Laying.{laid_by, cuts, IsBeside}
use Rattle.mx_trie.specs.Changed.{IsLineChanged}
use Rattle.mx_trie.proofs.HeapLaws.{move-none}
use Rattle.mx_trie.proofs.EntryLaws.{named-by, some-named, number-named, entry-renumbered}
use Rattle.mx_trie.proofs.Stored.{line-named}

-- a named spill word tells whether the line needs one
pub named-none : (b : Bool) (n : ℕ) → None ≡ (if b then Some n else None) → b ≡ false
named-none x n e = grind arith

-- a frame that is taken is no free one
pub taken-differs : (frames : Frames) (f g : ℕ) → IsTaken frames f → frame_at frames g ≡ None → f ≢ g
taken-differs frames f g taken free e = search arith

-- an entry made of permissions, reaches and a spill word, where `old` is the spill word of the entry before
pub record IsEntryMade (kind : Kind) (spill spill' : Frames) (old : Option ℕ) (e' : ℕ) : Type 0 where
  pub perms : List Perm
  pub left : ℕ
  pub right : ℕ
  pub number : ℕ
  pub word : ℕ
  pub needs : Bool
  pub needs_is : needs ≡ needs_spill kind perms
  pub put : IsSpillPut spill spill' old needs word number
  pub word_is : needs ≡ true → word ≡ packed perms
  pub entry_is : e' ≡ leaf_entry kind perms left right number

module _ (kind : Kind) (k : IsTrieKind kind) (spill spill' : Frames) (old : Option ℕ) (e' : ℕ)
    (made : IsEntryMade kind spill spill' old e') where
  named : spill_number kind e' ≡ (if made.needs then Some made.number else None)
  named = search (arith, named-by)

  pub entry-stays : (g : ℕ) → IsTaken spill g → old ≢ Some g → frame_at spill' g ≡ frame_at spill g
  entry-stays g taken ne = grind (arith, made.put.elsewhere g, taken-differs, made.put.reused, made.put.fresh)

  pub entry-fresh : (g : ℕ) → IsTaken spill g → old ≢ Some g → spill_number kind e' ≡ Some g → ⊥
  entry-fresh g taken ne is = grind (arith, named, taken-differs, made.put.reused, made.put.fresh)

  pub entry-taken : (g : ℕ) → spill_number kind e' ≡ Some g → IsTaken spill' g
  entry-taken g is = grind (arith, named, made.put.stored)

  pub entry-some : is_some (spill_number kind e') ≡ made.needs
  entry-some = search (arith, some-named, named)

  pub entry-shown : (n : List Perm) (z : ℕ) → line_at n (z * 16) ≡ made.perms → map_left kind n z ≡ made.left →
      map_right kind n z ≡ made.right → IsLine kind spill' n z e'
  entry-shown n z perms left right =
      search (arith, number-named, named, entry-renumbered, made.put.word_is, made.word_is)

-- the entry of line z after a change
pub record IsLineMade (kind : Kind) (spill spill' : Frames) (lay : Laying) (beside : Beside) (z e e' : ℕ) : Type 0 where
  pub made : IsEntryMade kind spill spill' (spill_number kind e) e'
  pub room : made.needs ≡ true → 1 ≤ cuts 16 z lay
  pub perms_are : (m : List Perm) → IsBeside kind m lay beside → IsLine kind spill m z e → line_at (laid_by lay m) (z * 16) ≡ made.perms
  pub left_is : (m : List Perm) → IsBeside kind m lay beside → IsLine kind spill m z e → map_left kind (laid_by lay m) z ≡ made.left
  pub right_is : (m : List Perm) → IsBeside kind m lay beside → IsLine kind spill m z e → map_right kind (laid_by lay m) z ≡ made.right

module _ (kind : Kind) (k : IsTrieKind kind) (spill spill' : Frames) (lay : Laying) (beside : Beside) (z e e' : ℕ)
    (line : IsLineMade kind spill spill' lay beside z e e') where
  pub line-changed : IsLineChanged kind spill spill' lay beside z e e'
  line-changed =
      search (
        arith,
        entry-stays,
        entry-fresh,
        entry-taken,
        entry-shown,
        bit-le,
        line.room,
        ap bit
            (entry-some kind k spill spill' (spill_number kind e) e' line.made),
      )

-- nothing is put where a line has no spill word and needs none
pub put-none : (spill : Frames) (o : Option ℕ) → o ≡ None → IsSpillPut spill spill o false 0 0
put-none spill o none = search (arith, ap (λ (x : Option ℕ). bit (is_some x)) none)

-- the entry of a line with a spill word beside the range stays
pub line-stays : (kind : Kind) → IsTrieKind kind → (spill : Frames) (lay : Laying) (beside : Beside) (z e : ℕ) →
    is_some (spill_number kind e) ≡ true → ((g : ℕ) → spill_number kind e ≡ Some g → IsTaken spill g) →
    ((m : List Perm) → IsBeside kind m lay beside → line_at (laid_by lay m) (z * 16) ≡ line_at m (z * 16)) →
    IsLineChanged kind spill spill lay beside z e e
line-stays kind k spill lay beside z e some taken same = search (arith, move-none, taken, same, line-named, some-named)
