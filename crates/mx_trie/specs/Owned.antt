-- Whose a frame is, computed from the entries: what lines, pages, regions and domains own, and that each frame
-- has one owner.
use Rattle.std.specs.Prelude.{◌≡◌, ℕ, ◌<◌, true, List, [], length, slice_index, Some, if◌then◌else◌, is_some}
use Rattle.mx_words.specs.declared.tables.Kind.{Kind}
use Rattle.mx_words.specs.Counting.{count_below, sum_below}
use Rattle.mx_pool.specs.Frames.{word_at}
use Rattle.mx_trie.specs.Leaf.{spill_number}
use Rattle.mx_trie.specs.Walk.{Frames, most_regions, is_pointer, target, root_word}
use Rattle.mx_trie.specs.Heap.{heap, IsFamily, IsNode, NodeOwns}

-- a leaf entry owns the spill word that it names
abbrev pub LineOwns : Kind → ℕ → ℕ → ℕ → Type 0
LineOwns kind e a g = (a ≡ 2) × (spill_number kind e ≡ Some g)

-- the lines of a leaf table by their places, and what the table owns with them
abbrev pub PlacesOwn : Kind → Frames → ℕ → ℕ → ℕ → ℕ → Type 0
PlacesOwn kind leaf frame k = LineOwns kind (word_at leaf frame k)

abbrev pub LeafOwns : Kind → Frames → ℕ → ℕ → ℕ → Type 0
LeafOwns kind leaf frame = NodeOwns 1 frame 64 (PlacesOwn kind leaf frame)

-- a mid entry owns its leaf table, where it is a pointer
abbrev pub PageOwns : Kind → Frames → ℕ → ℕ → ℕ → Type 0
PageOwns kind leaf e a g = (is_pointer e ≡ true) × LeafOwns kind leaf (target e) a g

abbrev pub PagesOwn : Kind → Frames → Frames → ℕ → ℕ → ℕ → ℕ → Type 0
PagesOwn kind upper leaf frame k = PageOwns kind leaf (word_at upper frame k)

abbrev pub MidOwns : Kind → Frames → Frames → ℕ → ℕ → ℕ → Type 0
MidOwns kind upper leaf frame = NodeOwns 0 frame 1024 (PagesOwn kind upper leaf frame)

-- a root entry owns its mid table, where it is a pointer
abbrev pub RegionOwns : Kind → Frames → Frames → ℕ → ℕ → ℕ → Type 0
RegionOwns kind upper leaf e a g = (is_pointer e ≡ true) × MidOwns kind upper leaf (target e) a g

abbrev pub RegionsOwn : Kind → Frames → Frames → ℕ → ℕ → ℕ → ℕ → Type 0
RegionsOwn kind upper leaf root x = RegionOwns kind upper leaf (root_word upper root x)

-- a domain owns its root table and what its regions own
abbrev pub DomainOwns : Kind → Frames → Frames → ℕ → ℕ → ℕ → Type 0
DomainOwns kind upper leaf root = NodeOwns 0 root most_regions (RegionsOwn kind upper leaf root)

-- the frames of a table are taken, and each has one owner
abbrev pub IsLeafTable : Kind → Frames → Frames → ℕ → Type 0
IsLeafTable kind leaf spill frame = IsNode (heap [] leaf spill) 1 frame 64 (PlacesOwn kind leaf frame)

pub record IsMidTable (kind : Kind) (upper leaf spill : Frames) (frame : ℕ) : Type 0 where
  pub node : IsNode (heap upper leaf spill) 0 frame 1024 (PagesOwn kind upper leaf frame)
  pub tables : (k : ℕ) → k < 1024 → is_pointer (word_at upper frame k) ≡ true →
      IsLeafTable kind leaf spill (target (word_at upper frame k))

pub record IsRootTable (kind : Kind) (upper leaf spill : Frames) (root : ℕ) : Type 0 where
  pub node : IsNode (heap upper leaf spill) 0 root most_regions (RegionsOwn kind upper leaf root)
  pub tables : (x : ℕ) → x < most_regions → is_pointer (root_word upper root x) ≡ true →
      IsMidTable kind upper leaf spill (target (root_word upper root x))

-- the tables of all domains
pub record IsForest (kind : Kind) (upper leaf spill : Frames) (roots : List ℕ) : Type 0 where
  pub family : IsFamily (heap upper leaf spill) (length roots)
      (λ d. DomainOwns kind upper leaf (slice_index roots d))
  pub tables : (d : ℕ) → d < length roots → IsRootTable kind upper leaf spill (slice_index roots d)

-- how many spill words the lines of a leaf table have, and the lines below a mid entry, and below a root entry
abbrev pub line_spills : Kind → Frames → ℕ → ℕ
line_spills kind leaf frame = count_below 64 (λ k. is_some (spill_number kind (word_at leaf frame k)))

abbrev pub page_spills : Kind → Frames → ℕ → ℕ
page_spills kind leaf e = if is_pointer e then line_spills kind leaf (target e) else 0

abbrev pub region_spills : Kind → Frames → Frames → ℕ → ℕ
region_spills kind upper leaf e =
    if is_pointer e then sum_below 1024 (λ k. page_spills kind leaf (word_at upper (target e) k)) else 0

-- how many leaf tables a root entry has
abbrev pub region_leaves : Frames → ℕ → ℕ
region_leaves upper e = if is_pointer e then count_below 1024 (λ k. is_pointer (word_at upper (target e) k)) else 0

-- how many mid tables, leaf tables and spill words a domain has
abbrev pub domain_mids : Frames → ℕ → ℕ
domain_mids upper root = count_below most_regions (λ x. is_pointer (root_word upper root x))

abbrev pub domain_leaves : Frames → ℕ → ℕ
domain_leaves upper root = sum_below most_regions (λ x. region_leaves upper (root_word upper root x))

abbrev pub domain_spills : Kind → Frames → Frames → ℕ → ℕ
domain_spills kind upper leaf root = sum_below most_regions
    (λ x. region_spills kind upper leaf (root_word upper root x))
