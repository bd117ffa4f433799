-- How far the loops of a change have come.
use Rattle.std.specs.Prelude.{◌≡◌, ◌≢◌, ℕ, ◌+◌, ◌-◌, ◌*◌, ◌/◌, ◌<◌, ◌≤◌, min, false, List, [], length, None}
use Rattle.mx_words.specs.declared.perm.Perm.{Perm}
use Rattle.mx_words.specs.declared.tables.Kind.{Kind}
use Rattle.mx_words.specs.Runs.{line_words, page_words, region_words}
use Rattle.mx_pool.specs.Frames.{frame_at, IsTaken, word_at, free_in}
use Rattle.mx_trie.specs.declared.laying.Laying.{Laying}
use Rattle.mx_trie.specs.declared.laying.Beside.{Beside}
use Rattle.mx_trie.specs.Digits.{digit}
use Rattle.mx_trie.specs.Filled.{flat_vector}
use Rattle.mx_trie.specs.Walk.{Frames, most_regions, is_pointer, root_word}
use Rattle.mx_trie.specs.Heap.{heap, IsMove}
use Rattle.mx_trie.specs.Owned.{LeafOwns, MidOwns, DomainOwns, IsLeafTable, IsMidTable, IsRootTable, line_spills, region_spills}
use Rattle.mx_trie.specs.Owned.{region_leaves, domain_mids, domain_leaves, domain_spills}
use Rattle.mx_trie.specs.Shown.{IsLine, AreLines, IsPage, ArePages, IsRegion, IsDomain}
use Rattle.mx_trie.specs.Laying.{laid_by, cuts, IsBeside}

-- 1 where the range begins or ends inside the block of `size` words with number `next` or a later one, before
-- word `stop`
abbrev pub cut_left : ℕ → ℕ → ℕ → ℕ → ℕ
cut_left size next stop word = min 1 (min (word - next * size) (stop - word))

abbrev pub cuts_left : ℕ → ℕ → ℕ → Laying → ℕ
cuts_left size next stop lay = cut_left size next stop lay.first + cut_left size next stop lay.end

-- the lines of page y before line `next` are changed
pub record AreLinesOnWay (kind : Kind) (leaf spill leaf' spill' : Frames) (lay : Laying) (beside : Beside)
    (y frame next : ℕ) : Type 0 where
  pub table : IsLeafTable kind leaf' spill' frame
  pub move : IsMove (heap [] leaf spill) (heap [] leaf' spill') (LeafOwns kind leaf frame)
      (LeafOwns kind leaf' frame)
  pub done : (m : List Perm) → IsBeside kind m lay beside → AreLines kind leaf spill m y frame →
      (k : ℕ) → k < 64 → y * 64 + k < next → IsLine kind spill' (laid_by lay m) (y * 64 + k) (word_at leaf' frame k)
  pub ahead : (m : List Perm) → IsBeside kind m lay beside → AreLines kind leaf spill m y frame →
      (k : ℕ) → k < 64 → next ≤ y * 64 + k → IsLine kind spill' m (y * 64 + k) (word_at leaf' frame k)
  pub leaf_count : free_in leaf' ≡ free_in leaf
  pub leaf_total : length leaf' ≡ length leaf
  pub spill_count : free_in spill' + line_spills kind leaf' frame ≡ free_in spill + line_spills kind leaf frame
  pub spill_room : free_in spill + cuts_left line_words next (y * page_words + page_words) lay
      ≤ free_in spill' + cuts page_words y lay
  pub spill_total : length spill' ≡ length spill

-- the pages of a mid table are exchanged, with what they own
pub record ArePagesMoved (kind : Kind) (upper leaf spill upper' leaf' spill' : Frames) (frame : ℕ) : Type 0 where
  pub table : IsMidTable kind upper' leaf' spill' frame
  pub move : IsMove (heap upper leaf spill) (heap upper' leaf' spill') (MidOwns kind upper leaf frame)
      (MidOwns kind upper' leaf' frame)
  pub upper_count : free_in upper' ≡ free_in upper
  pub upper_total : length upper' ≡ length upper
  pub leaf_count : free_in leaf' + region_leaves upper' (4 * frame) ≡ free_in leaf + region_leaves upper (4 * frame)
  pub leaf_total : length leaf' ≡ length leaf
  pub spill_count : free_in spill' + region_spills kind upper' leaf' (4 * frame)
      ≡ free_in spill + region_spills kind upper leaf (4 * frame)
  pub spill_total : length spill' ≡ length spill

-- the first pages of a mid table have no tables any more
pub record ArePagesEmptied (kind : Kind) (upper leaf spill upper' leaf' spill' : Frames) (frame next : ℕ)
    : Type 0 where
  pub moved : ArePagesMoved kind upper leaf spill upper' leaf' spill' frame
  pub closed : (k : ℕ) → k < next → is_pointer (word_at upper' frame k) ≡ false

-- the pages of region x before page `next` are changed
pub record ArePagesOnWay (kind : Kind) (upper leaf spill upper' leaf' spill' : Frames) (lay : Laying)
    (beside : Beside) (x frame next : ℕ) : Type 0 where
  pub moved : ArePagesMoved kind upper leaf spill upper' leaf' spill' frame
  pub done : (m : List Perm) → IsBeside kind m lay beside → ArePages kind upper leaf spill m x frame →
      (k : ℕ) → k < 1024 → x * 1024 + k < next →
      IsPage kind leaf' spill' (laid_by lay m) (x * 1024 + k) (word_at upper' frame k)
  pub ahead : (m : List Perm) → IsBeside kind m lay beside → ArePages kind upper leaf spill m x frame →
      (k : ℕ) → k < 1024 → next ≤ x * 1024 + k → IsPage kind leaf' spill' m (x * 1024 + k) (word_at upper' frame k)
  pub leaf_room : free_in leaf + cuts_left page_words next (x * region_words + region_words) lay
      ≤ free_in leaf' + cuts region_words x lay
  pub spill_room : free_in spill + cuts_left page_words next (x * region_words + region_words) lay
      ≤ free_in spill' + cuts region_words x lay

-- a mid table in a frame that was free, with the vectors of the pages in the first eighths of a region that has
-- vector e
pub record IsRegionFilled (upper upper' : Frames) (e frame parts : ℕ) : Type 0 where
  pub was_free : frame_at upper frame ≡ None
  pub taken : IsTaken upper' frame
  pub vectors : (k : ℕ) → k < 128 * parts → word_at upper' frame k ≡ flat_vector (digit (e / 4) (k / 128))
  pub elsewhere : (g : ℕ) → g ≢ frame → frame_at upper' g ≡ frame_at upper g
  pub free : free_in upper' + 1 ≡ free_in upper
  pub total : length upper' ≡ length upper

-- the regions of a domain before region `next` are changed
pub record AreRegionsOnWay (kind : Kind) (upper leaf spill upper' leaf' spill' : Frames) (lay : Laying)
    (beside : Beside) (root next : ℕ) : Type 0 where
  pub table : IsRootTable kind upper' leaf' spill' root
  pub move : IsMove (heap upper leaf spill) (heap upper' leaf' spill') (DomainOwns kind upper leaf root)
      (DomainOwns kind upper' leaf' root)
  pub done : (m : List Perm) → IsBeside kind m lay beside → IsDomain kind upper leaf spill m root →
      (x : ℕ) → x < most_regions → x < next →
      IsRegion kind upper' leaf' spill' (laid_by lay m) x (root_word upper' root x)
  pub ahead : (m : List Perm) → IsBeside kind m lay beside → IsDomain kind upper leaf spill m root →
      (x : ℕ) → x < most_regions → next ≤ x → IsRegion kind upper' leaf' spill' m x (root_word upper' root x)
  pub upper_count : free_in upper' + domain_mids upper' root ≡ free_in upper + domain_mids upper root
  pub upper_room : free_in upper + cuts_left region_words next (most_regions * region_words) lay
      ≤ free_in upper' + 2
  pub upper_total : length upper' ≡ length upper
  pub leaf_count : free_in leaf' + domain_leaves upper' root ≡ free_in leaf + domain_leaves upper root
  pub leaf_room : free_in leaf + cuts_left region_words next (most_regions * region_words) lay ≤ free_in leaf' + 2
  pub leaf_total : length leaf' ≡ length leaf
  pub spill_count : free_in spill' + domain_spills kind upper' leaf' root
      ≡ free_in spill + domain_spills kind upper leaf root
  pub spill_room : free_in spill + cuts_left region_words next (most_regions * region_words) lay
      ≤ free_in spill' + 2
  pub spill_total : length spill' ≡ length spill
