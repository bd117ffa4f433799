-- What a change does to one block: its frames make a move, its entry stands for the new map where the old one
-- stood for the old map, and the free frames are counted. It takes at most one frame of a sort for each of the
-- range's two ends that lies inside the block.
use Rattle.std.specs.Prelude.{◌≡◌, ℕ, ◌+◌, ◌*◌, ◌≤◌, true, List, [], length, Some, is_some}
use Rattle.mx_words.specs.declared.perm.Perm.{Perm}
use Rattle.mx_words.specs.declared.tables.Kind.{Kind}
use Rattle.mx_words.specs.Counting.{bit}
use Rattle.mx_words.specs.Runs.{line_words, page_words, region_words}
use Rattle.mx_pool.specs.Frames.{IsTaken, free_in}
use Rattle.mx_trie.specs.declared.laying.Laying.{Laying}
use Rattle.mx_trie.specs.declared.laying.Beside.{Beside}
use Rattle.mx_trie.specs.Leaf.{spill_number}
use Rattle.mx_trie.specs.Walk.{Frames, is_pointer, target}
use Rattle.mx_trie.specs.Heap.{heap, IsMove}
use Rattle.mx_trie.specs.Owned.{LineOwns, LeafOwns, PageOwns, MidOwns, RegionOwns, DomainOwns, IsLeafTable, IsMidTable, IsRootTable}
use Rattle.mx_trie.specs.Owned.{line_spills, page_spills, region_spills, region_leaves, domain_mids, domain_leaves, domain_spills}
use Rattle.mx_trie.specs.Shown.{IsLine, AreLines, IsPage, ArePages, IsRegion, IsDomain}
use Rattle.mx_trie.specs.Laying.{laid_by, cuts, IsBeside}

-- the entry of line z
pub record IsLineChanged (kind : Kind) (spill spill' : Frames) (lay : Laying) (beside : Beside) (z e e' : ℕ)
    : Type 0 where
  pub move : IsMove (heap [] [] spill) (heap [] [] spill') (LineOwns kind e) (LineOwns kind e')
  pub taken : (g : ℕ) → spill_number kind e' ≡ Some g → IsTaken spill' g
  pub shown : (m : List Perm) → IsBeside kind m lay beside → IsLine kind spill m z e →
      IsLine kind spill' (laid_by lay m) z e'
  pub count : free_in spill' + bit (is_some (spill_number kind e'))
      ≡ free_in spill + bit (is_some (spill_number kind e))
  pub room : free_in spill ≤ free_in spill' + cuts line_words z lay
  pub total : length spill' ≡ length spill

-- the lines of page y, in its leaf table
pub record AreLinesChanged (kind : Kind) (leaf spill leaf' spill' : Frames) (lay : Laying) (beside : Beside)
    (y frame : ℕ) : Type 0 where
  pub table : IsLeafTable kind leaf' spill' frame
  pub move : IsMove (heap [] leaf spill) (heap [] leaf' spill') (LeafOwns kind leaf frame)
      (LeafOwns kind leaf' frame)
  pub shown : (m : List Perm) → IsBeside kind m lay beside → AreLines kind leaf spill m y frame →
      AreLines kind leaf' spill' (laid_by lay m) y frame
  pub leaf_count : free_in leaf' ≡ free_in leaf
  pub leaf_total : length leaf' ≡ length leaf
  pub spill_count : free_in spill' + line_spills kind leaf' frame ≡ free_in spill + line_spills kind leaf frame
  pub spill_room : free_in spill ≤ free_in spill' + cuts page_words y lay
  pub spill_total : length spill' ≡ length spill

-- the entry of page y
pub record IsPageChanged (kind : Kind) (leaf spill leaf' spill' : Frames) (lay : Laying) (beside : Beside)
    (y e e' : ℕ) : Type 0 where
  pub table : is_pointer e' ≡ true → IsLeafTable kind leaf' spill' (target e')
  pub move : IsMove (heap [] leaf spill) (heap [] leaf' spill') (PageOwns kind leaf e) (PageOwns kind leaf' e')
  pub shown : (m : List Perm) → IsBeside kind m lay beside → IsPage kind leaf spill m y e →
      IsPage kind leaf' spill' (laid_by lay m) y e'
  pub leaf_count : free_in leaf' + bit (is_pointer e') ≡ free_in leaf + bit (is_pointer e)
  pub leaf_room : free_in leaf ≤ free_in leaf' + cuts page_words y lay
  pub leaf_total : length leaf' ≡ length leaf
  pub spill_count : free_in spill' + page_spills kind leaf' e' ≡ free_in spill + page_spills kind leaf e
  pub spill_room : free_in spill ≤ free_in spill' + cuts page_words y lay
  pub spill_total : length spill' ≡ length spill

-- the pages of region x, in its mid table
pub record ArePagesChanged (kind : Kind) (upper leaf spill upper' leaf' spill' : Frames) (lay : Laying)
    (beside : Beside) (x frame : ℕ) : Type 0 where
  pub table : IsMidTable kind upper' leaf' spill' frame
  pub move : IsMove (heap upper leaf spill) (heap upper' leaf' spill') (MidOwns kind upper leaf frame)
      (MidOwns kind upper' leaf' frame)
  pub shown : (m : List Perm) → IsBeside kind m lay beside → ArePages kind upper leaf spill m x frame →
      ArePages kind upper' leaf' spill' (laid_by lay m) x frame
  pub upper_count : free_in upper' ≡ free_in upper
  pub upper_total : length upper' ≡ length upper
  pub leaf_count : free_in leaf' + region_leaves upper' (4 * frame) ≡ free_in leaf + region_leaves upper (4 * frame)
  pub leaf_room : free_in leaf ≤ free_in leaf' + cuts region_words x lay
  pub leaf_total : length leaf' ≡ length leaf
  pub spill_count : free_in spill' + region_spills kind upper' leaf' (4 * frame)
      ≡ free_in spill + region_spills kind upper leaf (4 * frame)
  pub spill_room : free_in spill ≤ free_in spill' + cuts region_words x lay
  pub spill_total : length spill' ≡ length spill

-- the entry of region x
pub record IsRegionChanged (kind : Kind) (upper leaf spill upper' leaf' spill' : Frames) (lay : Laying)
    (beside : Beside) (x e e' : ℕ) : Type 0 where
  pub table : is_pointer e' ≡ true → IsMidTable kind upper' leaf' spill' (target e')
  pub move : IsMove (heap upper leaf spill) (heap upper' leaf' spill') (RegionOwns kind upper leaf e)
      (RegionOwns kind upper' leaf' e')
  pub shown : (m : List Perm) → IsBeside kind m lay beside → IsRegion kind upper leaf spill m x e →
      IsRegion kind upper' leaf' spill' (laid_by lay m) x e'
  pub upper_count : free_in upper' + bit (is_pointer e') ≡ free_in upper + bit (is_pointer e)
  pub upper_room : free_in upper ≤ free_in upper' + cuts region_words x lay
  pub upper_total : length upper' ≡ length upper
  pub leaf_count : free_in leaf' + region_leaves upper' e' ≡ free_in leaf + region_leaves upper e
  pub leaf_room : free_in leaf ≤ free_in leaf' + cuts region_words x lay
  pub leaf_total : length leaf' ≡ length leaf
  pub spill_count : free_in spill' + region_spills kind upper' leaf' e'
      ≡ free_in spill + region_spills kind upper leaf e
  pub spill_room : free_in spill ≤ free_in spill' + cuts region_words x lay
  pub spill_total : length spill' ≡ length spill

-- a domain, for maps of which something is known
pub record IsDomainChanged (kind : Kind) (upper leaf spill upper' leaf' spill' : Frames)
    (Knows : List Perm → Type 0) (lay : Laying) (root : ℕ) : Type 0 where
  pub table : IsRootTable kind upper' leaf' spill' root
  pub move : IsMove (heap upper leaf spill) (heap upper' leaf' spill') (DomainOwns kind upper leaf root)
      (DomainOwns kind upper' leaf' root)
  pub shown : (m : List Perm) → Knows m → IsDomain kind upper leaf spill m root →
      IsDomain kind upper' leaf' spill' (laid_by lay m) root
  pub upper_count : free_in upper' + domain_mids upper' root ≡ free_in upper + domain_mids upper root
  pub upper_room : free_in upper ≤ free_in upper' + 2
  pub upper_total : length upper' ≡ length upper
  pub leaf_count : free_in leaf' + domain_leaves upper' root ≡ free_in leaf + domain_leaves upper root
  pub leaf_room : free_in leaf ≤ free_in leaf' + 2
  pub leaf_total : length leaf' ≡ length leaf
  pub spill_count : free_in spill' + domain_spills kind upper' leaf' root
      ≡ free_in spill + domain_spills kind upper leaf root
  pub spill_room : free_in spill ≤ free_in spill' + 2
  pub spill_total : length spill' ≡ length spill
