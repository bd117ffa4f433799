-- What single steps of a change do: a table is opened, closed or given back. And what they rely on.
use Rattle.std.specs.Prelude.{◌≡◌, ◌≢◌, ℕ, ◌+◌, ◌-◌, ◌*◌, ◌<◌, ◌≤◌, true, List, [], length, Option, Some, None, is_some, if◌then◌else◌}
use Rattle.mx_words.specs.declared.perm.Perm.{Perm}
use Rattle.mx_words.specs.declared.tables.Kind.{Kind}
use Rattle.mx_words.specs.Blocks.{is_broken, IsEven}
use Rattle.mx_words.specs.Counting.{bit}
use Rattle.mx_words.specs.Ranges.{most_words}
use Rattle.mx_words.specs.Reach.{vector}
use Rattle.mx_words.specs.Rights.{perm_at}
use Rattle.mx_words.specs.Runs.{page_words}
use Rattle.mx_pool.specs.Frames.{frame_at, IsTaken, word_at, free_in}
use Rattle.mx_trie.specs.declared.laying.Laying.{Laying}
use Rattle.mx_trie.specs.declared.laying.Beside.{Beside}
use Rattle.mx_trie.specs.declared.laying.Outer.{Outer}
use Rattle.mx_trie.specs.Leaf.{spill_number}
use Rattle.mx_trie.specs.Walk.{Frames, is_pointer, target, vector_perm}
use Rattle.mx_trie.specs.Heap.{heap, IsMove}
use Rattle.mx_trie.specs.Owned.{LineOwns, LeafOwns, PageOwns, MidOwns, RegionOwns, IsLeafTable, IsMidTable, line_spills, page_spills}
use Rattle.mx_trie.specs.Owned.{region_spills, region_leaves}
use Rattle.mx_trie.specs.Shown.{IsLine, AreLines, IsPage, ArePages, IsRegion, IsDomain}
use Rattle.mx_trie.specs.Laying.{IsBeside, IsOuter}

-- entries that stand for some map, of which it is known what lies beside the range
pub record AreSomeLines (kind : Kind) (leaf spill : Frames) (lay : Laying) (beside : Beside) (y frame : ℕ)
    : Type 0 where
  pub map : List Perm
  pub known : IsBeside kind map lay beside
  pub lines : AreLines kind leaf spill map y frame

pub record IsSomePage (kind : Kind) (leaf spill : Frames) (lay : Laying) (beside : Beside) (y e : ℕ) : Type 0 where
  pub map : List Perm
  pub known : IsBeside kind map lay beside
  pub page : IsPage kind leaf spill map y e

pub record AreSomePages (kind : Kind) (upper leaf spill : Frames) (lay : Laying) (beside : Beside)
    (x frame : ℕ) : Type 0 where
  pub map : List Perm
  pub known : IsBeside kind map lay beside
  pub pages : ArePages kind upper leaf spill map x frame

pub record IsSomeRegion (kind : Kind) (upper leaf spill : Frames) (lay : Laying) (beside : Beside) (x e : ℕ)
    : Type 0 where
  pub map : List Perm
  pub known : IsBeside kind map lay beside
  pub region : IsRegion kind upper leaf spill map x e

pub record AreSomeRegions (kind : Kind) (upper leaf spill : Frames) (lay : Laying) (beside : Beside)
    (root : ℕ) : Type 0 where
  pub map : List Perm
  pub known : IsBeside kind map lay beside
  pub regions : IsDomain kind upper leaf spill map root

-- the lines of page y of some map
pub record AreLinesOfSome (kind : Kind) (leaf spill : Frames) (y frame : ℕ) : Type 0 where
  pub map : List Perm
  pub few : length map ≤ most_words
  pub lines : AreLines kind leaf spill map y frame

-- the permission of `count` words from word `first` on, or nothing where they have more than one
pub record IsPermOf (m : List Perm) (first count : ℕ) (told : Option Perm) : Type 0 where
  pub alike : (p : Perm) → told ≡ Some p → (k : ℕ) → k < count → perm_at m (first + k) ≡ p
  pub mixed : told ≡ None → ((k : ℕ) → k < count → perm_at m (first + k) ≡ perm_at m first) → ⊥

-- the vector of block b, or nothing where it is broken
abbrev pub IsEntryOf : ℕ → List Perm → ℕ → Option ℕ → Type 0
IsEntryOf size m b told = told ≡ (if is_broken size m b then None else Some (vector size m (b * size)))

-- how many words before an eighth of a page with a vector are known to have its permission, and how many behind it
pub record IsBeforeEighth (entry part outer most count : ℕ) : Type 0 where
  pub first : part ≡ 0 → count ≡ outer
  pub same : 0 < part → vector_perm entry (part - 1) ≡ vector_perm entry part → count ≡ most
  pub other : 0 < part → vector_perm entry (part - 1) ≢ vector_perm entry part → count ≡ 0

pub record IsBehindEighth (entry part outer most count : ℕ) : Type 0 where
  pub last : part ≡ 7 → count ≡ outer
  pub same : part < 7 → vector_perm entry part ≡ vector_perm entry (part + 1) → count ≡ most
  pub other : part < 7 → vector_perm entry part ≢ vector_perm entry (part + 1) → count ≡ 0

-- an entry is written at a place of a table
pub record IsPlaceWritten (frames frames' : Frames) (frame place entry : ℕ) : Type 0 where
  pub taken : IsTaken frames' frame
  pub here : word_at frames' frame place ≡ entry
  pub others : (k : ℕ) → k ≢ place → word_at frames' frame k ≡ word_at frames frame k
  pub elsewhere : (g : ℕ) → g ≢ frame → frame_at frames' g ≡ frame_at frames g
  pub free : free_in frames' ≡ free_in frames
  pub total : length frames' ≡ length frames

-- a leaf table in a frame that was free, with the entries of the first lines of a page that has a vector; they
-- name no spill words
pub record IsPageMade (kind : Kind) (words : ℕ) (leaf leaf' : Frames) (outer : Outer) (y e frame count : ℕ)
    : Type 0 where
  pub was_free : frame_at leaf frame ≡ None
  pub taken : IsTaken leaf' frame
  pub none : (k : ℕ) → k < count → spill_number kind (word_at leaf' frame k) ≡ None
  pub lines : (k : ℕ) → k < count → (m : List Perm) (spill : Frames) → length m ≡ words → IsOuter kind m y outer →
      IsEven m (y * page_words) 128 → e ≡ vector page_words m (y * page_words) →
      IsLine kind spill m (y * 64 + k) (word_at leaf' frame k)
  pub elsewhere : (g : ℕ) → g ≢ frame → frame_at leaf' g ≡ frame_at leaf g
  pub free : free_in leaf' + 1 ≡ free_in leaf
  pub total : length leaf' ≡ length leaf

-- page y has a leaf table
pub record IsPageOpened (kind : Kind) (leaf spill leaf' : Frames) (lay : Laying) (beside : Beside)
    (y e frame : ℕ) : Type 0 where
  pub table : IsLeafTable kind leaf' spill frame
  pub move : IsMove (heap [] leaf spill) (heap [] leaf' spill) (PageOwns kind leaf e) (LeafOwns kind leaf' frame)
  pub shown : (m : List Perm) → IsBeside kind m lay beside → IsPage kind leaf spill m y e →
      AreLines kind leaf' spill m y frame
  pub count : free_in leaf' + 1 ≡ free_in leaf + bit (is_pointer e)
  pub total : length leaf' ≡ length leaf
  pub spills : line_spills kind leaf' frame ≡ page_spills kind leaf e

-- a leaf table that stands for page y of some map
pub record IsClosable (kind : Kind) (leaf spill : Frames) (y frame : ℕ) : Type 0 where
  pub table : IsLeafTable kind leaf spill frame
  pub stands : AreLinesOfSome kind leaf spill y frame

-- page y keeps its leaf table exactly where it is broken
pub record IsPageClosed (kind : Kind) (leaf spill leaf' : Frames) (y frame e' : ℕ) : Type 0 where
  pub table : is_pointer e' ≡ true → IsLeafTable kind leaf' spill (target e')
  pub move : IsMove (heap [] leaf spill) (heap [] leaf' spill) (LeafOwns kind leaf frame) (PageOwns kind leaf' e')
  pub shown : (m : List Perm) → length m ≤ most_words → AreLines kind leaf spill m y frame →
      IsPage kind leaf' spill m y e'
  pub count : free_in leaf' + bit (is_pointer e') ≡ free_in leaf + 1
  pub total : length leaf' ≡ length leaf
  pub spills : page_spills kind leaf' e' ≡ line_spills kind leaf frame

-- the frames of a mid entry are given back
pub record IsPageFreed (kind : Kind) (leaf spill leaf' spill' : Frames) (e : ℕ) : Type 0 where
  pub move : IsMove (heap [] leaf spill) (heap [] leaf' spill') (PageOwns kind leaf e) (λ a g. ⊥)
  pub leaf_count : free_in leaf' ≡ free_in leaf + bit (is_pointer e)
  pub leaf_total : length leaf' ≡ length leaf
  pub spill_count : free_in spill' ≡ free_in spill + page_spills kind leaf e
  pub spill_total : length spill' ≡ length spill

-- the spill word of a leaf table's line is given back
pub record IsLineFreed (kind : Kind) (leaf spill leaf' spill' : Frames) (frame place : ℕ) : Type 0 where
  pub written : IsPlaceWritten leaf leaf' frame place (word_at leaf' frame place)
  pub none : spill_number kind (word_at leaf' frame place) ≡ None
  pub move : IsMove (heap [] [] spill) (heap [] [] spill') (LineOwns kind (word_at leaf frame place))
      (LineOwns kind (word_at leaf' frame place))
  pub count : free_in spill' ≡ free_in spill + bit (is_some (spill_number kind (word_at leaf frame place)))
  pub total : length spill' ≡ length spill

-- the spill words of a leaf table's first lines are given back
pub record AreLinesFreed (kind : Kind) (leaf spill leaf' spill' : Frames) (frame count : ℕ) : Type 0 where
  pub table : IsLeafTable kind leaf' spill' frame
  pub none : (k : ℕ) → k < count → spill_number kind (word_at leaf' frame k) ≡ None
  pub move : IsMove (heap [] leaf spill) (heap [] leaf' spill') (LeafOwns kind leaf frame)
      (LeafOwns kind leaf' frame)
  pub leaf_count : free_in leaf' ≡ free_in leaf
  pub leaf_total : length leaf' ≡ length leaf
  pub spill_count : free_in spill' + line_spills kind leaf' frame ≡ free_in spill + line_spills kind leaf frame
  pub spill_total : length spill' ≡ length spill

-- a region has a mid table
pub record IsRegionOpened (kind : Kind) (upper leaf spill upper' : Frames) (e frame : ℕ) : Type 0 where
  pub table : IsMidTable kind upper' leaf spill frame
  pub move : IsMove (heap upper leaf spill) (heap upper' leaf spill) (RegionOwns kind upper leaf e)
      (MidOwns kind upper' leaf frame)
  pub shown : (m : List Perm) (x : ℕ) → IsRegion kind upper leaf spill m x e →
      ArePages kind upper' leaf spill m x frame
  pub count : free_in upper' + 1 ≡ free_in upper + bit (is_pointer e)
  pub total : length upper' ≡ length upper
  pub leaves : region_leaves upper' (4 * frame) ≡ region_leaves upper e
  pub spills : region_spills kind upper' leaf (4 * frame) ≡ region_spills kind upper leaf e

-- a mid table that stands for region x of some map
pub record IsClosableRegion (kind : Kind) (upper leaf spill : Frames) (x frame : ℕ) : Type 0 where
  pub table : IsMidTable kind upper leaf spill frame
  pub map : List Perm
  pub stands : ArePages kind upper leaf spill map x frame

-- region x keeps its mid table exactly where it is broken
pub record IsRegionClosed (kind : Kind) (upper leaf spill upper' : Frames) (x frame e' : ℕ) : Type 0 where
  pub table : is_pointer e' ≡ true → IsMidTable kind upper' leaf spill (target e')
  pub move : IsMove (heap upper leaf spill) (heap upper' leaf spill) (MidOwns kind upper leaf frame)
      (RegionOwns kind upper' leaf e')
  pub shown : (m : List Perm) → ArePages kind upper leaf spill m x frame → IsRegion kind upper' leaf spill m x e'
  pub count : free_in upper' + bit (is_pointer e') ≡ free_in upper + 1
  pub total : length upper' ≡ length upper
  pub leaves : region_leaves upper' e' ≡ region_leaves upper (4 * frame)
  pub spills : region_spills kind upper' leaf e' ≡ region_spills kind upper leaf (4 * frame)

-- the frames of a root entry are given back
pub record IsRegionFreed (kind : Kind) (upper leaf spill upper' leaf' spill' : Frames) (e : ℕ) : Type 0 where
  pub move : IsMove (heap upper leaf spill) (heap upper' leaf' spill') (RegionOwns kind upper leaf e) (λ a g. ⊥)
  pub upper_count : free_in upper' ≡ free_in upper + bit (is_pointer e)
  pub upper_total : length upper' ≡ length upper
  pub leaf_count : free_in leaf' ≡ free_in leaf + region_leaves upper e
  pub leaf_total : length leaf' ≡ length leaf
  pub spill_count : free_in spill' ≡ free_in spill + region_spills kind upper leaf e
  pub spill_total : length spill' ≡ length spill

-- the frames below a mid table are given back
pub record ArePagesFreed (kind : Kind) (upper leaf spill upper' leaf' spill' : Frames) (frame : ℕ) : Type 0 where
  pub taken : IsTaken upper' frame
  pub move : IsMove (heap upper leaf spill) (heap upper' leaf' spill') (MidOwns kind upper leaf frame)
      (MidOwns kind upper' leaf' frame)
  pub upper_count : free_in upper' ≡ free_in upper
  pub upper_total : length upper' ≡ length upper
  pub leaf_count : free_in leaf' ≡ free_in leaf + region_leaves upper (4 * frame)
  pub leaf_total : length leaf' ≡ length leaf
  pub spill_count : free_in spill' ≡ free_in spill + region_spills kind upper leaf (4 * frame)
  pub spill_total : length spill' ≡ length spill
