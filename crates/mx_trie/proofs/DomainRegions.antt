-- The regions of a domain, changed one by one in its root table.
use Rattle.std.proofs.Common.{◌≡◌, ℕ, ◌+◌, ◌-◌, ◌*◌, ◌/◌, ◌<◌, ◌≤◌, ◌⊎◌, inl, inr, true, min, List, length, refl, sym, arith, subst}
use Rattle.mx_words.specs.declared.perm.Perm.{Perm}
use Rattle.mx_words.specs.declared.tables.Kind.{Kind}
use Rattle.mx_table.specs.Tables.{most_words}
use Rattle.mx_pool.specs.Frames.{IsTaken, word_at, free_in}
use Rattle.mx_trie.specs.declared.laying.Laying.{Laying}
use Rattle.mx_trie.specs.declared.laying.Beside.{Beside}
use Rattle.mx_trie.specs.Leaf.{IsTrieKind, form_reach}
use Rattle.mx_trie.specs.Ranges.{IsApart}
use Rattle.mx_trie.specs.Walk.{Frames, most_regions, is_pointer, target, root_word}
use Rattle.mx_trie.specs.Heap.{heap}
use Rattle.mx_trie.specs.Owned.{RegionOwns, IsMidTable, IsRootTable, region_spills, region_leaves}
use Rattle.mx_trie.specs.Shown.{IsRegion, IsDomain}
use Rattle.mx_trie.specs.Laying.{laid_by, IsBeside}
use Rattle.mx_trie.specs.Changed.{IsRegionChanged, IsDomainChanged}
use Rattle.mx_trie.specs.OnWay.{AreRegionsOnWay}
use Rattle.mx_trie.proofs.HeapLaws.{taken-on, move-then, move-none}
use Rattle.mx_trie.proofs.NodeLaws.{node-taken, either}
use Rattle.mx_trie.proofs.EntryPuts.{IsLevel, IsEntryWritten, IsEntryPut, entry-put, entry-count, entry-sum, holds-all, holds-other}
use Rattle.mx_trie.proofs.EntryPuts.{holds-here}
use Rattle.mx_trie.proofs.RegionFrames.{region-owns-same, region-table-kept, region-kept, region_spills-same, region_leaves-same}
use Rattle.mx_trie.proofs.RegionPages.{far-page}
use Rattle.mx_trie.proofs.PageLines.{word-kept}
use Rattle.mx_trie.proofs.BlockChanges.{apart-broken, apart-vector}
use Rattle.mx_trie.proofs.Cuts.{cuts-step, room-more, room-end}

-- a region far from the range
far-region : (kind : Kind) (upper leaf spill : Frames) (m : List Perm) (lay : Laying) (b : Beside) →
    IsBeside kind m lay b → (x e : ℕ) → x < most_regions →
    (x < (lay.first - form_reach kind) / 1048576) ⊎ (min (lay.end - 1 + form_reach kind) (most_words - 1) / 1048576 < x)
    → IsRegion kind upper leaf spill m x e →
    IsRegion kind upper leaf spill (laid_by lay m) x e
far-region kind upper leaf spill m lay b known x e below far region =
    let apart : IsApart lay.first lay.end (x * 1048576) (x * 1048576 + 1048576) = (let s = lay.some in grind arith) in
    let pages = λ (i : ℕ) (inside : i < 1024). far-page kind leaf spill m lay b known (x * 1024 + i) (word_at upper (target e) i)
    (omega arith) (grind arith) in
    search (
      arith,
      region.vector_is,
      region.pages,
      apart-broken lay m 1048576 x apart,
      apart-vector lay m 1048576 131072 x apart refl refl
          (omega arith),
      pages,
    )

module _ (kind : Kind) (k : IsTrieKind kind) (upper leaf spill : Frames) (lay : Laying) (beside : Beside) (root : ℕ)
  where
    -- nothing is changed yet
    pub regions-none : (next : ℕ) → IsRootTable kind upper leaf spill root →
        next ≤ (lay.first - form_reach kind) / 1048576 →
        AreRegionsOnWay kind upper leaf spill upper leaf spill lay beside root next
    regions-none next table far = let done = λ (m : _) (known : IsBeside kind m lay beside)
        (x : ℕ) (b : _) (lt : x < next). far-region kind upper leaf spill m _ _ known x (root_word upper root x) b (inl (omega arith)) in
        search (arith, move-none, done)

    module _ (upper' leaf' spill' : Frames) (next : ℕ)
        (way : AreRegionsOnWay kind upper leaf spill upper' leaf' spill' lay beside root next) where
      -- all regions are changed that may be
      pub regions-all : min (lay.end - 1 + form_reach kind) (most_words - 1) / 1048576 < next →
          IsDomainChanged kind upper leaf spill upper' leaf' spill' (λ m. IsBeside kind m lay beside) lay root
      regions-all far =
          let shown = λ (m : _) (known : IsBeside kind m lay beside) (old : _) (x : ℕ) (b : _). either x next _ (way.done m known old x b)
          (λ h. far-region _ _ _ _ m _ _ known x _ b (inr (omega arith)) (way.ahead m known old x b h)) in
          search (arith, shown, room-end, way.upper_room, way.leaf_room, way.spill_room)

      module _ (below : next < most_regions) (e : ℕ) (is : e ≡ root_word upper' root next) where
        -- the next region's entry
        at-next : (m : List Perm) → IsBeside kind m lay beside → IsDomain kind upper leaf spill m root →
            IsRegion kind upper' leaf' spill' m next e
        at-next m known domain =
            subst (λ w. IsRegion kind upper' leaf' spill' m next w) (sym is) (way.ahead m known domain next below (omega arith))

        -- the root table's own frame is still taken after the region's change
        pub root-taken : (upper'' leaf'' spill'' : Frames) (e' : ℕ) →
            IsRegionChanged kind upper' leaf' spill' upper'' leaf'' spill'' lay beside next e e' → IsTaken upper'' root
        root-taken u l s v c =
            taken-on (heap upper' leaf' spill') (heap u l s) 0 root
            (c.move.stays 0 root way.table.node.self (λ o. way.table.node.other next below (rw is at o))) way.table.node.self

        -- one more region is changed
        module _ (upper'' leaf'' spill'' upper3 : Frames) (e' : ℕ)
            (told : IsRegionChanged kind upper' leaf' spill' upper'' leaf'' spill'' lay beside next e e')
            (written : IsEntryWritten (λ u x. root_word u root x) upper'' upper3 root next e')
            (free : free_in upper3 ≡ free_in upper'') (total : length upper3 ≡ length upper'') where
          pub regions-more : AreRegionsOnWay kind upper leaf spill upper3 leaf'' spill'' lay beside root (next + 1)
          regions-more = let less = cuts-step 1048576 next 16777216 lay (omega arith) (omega arith) in
              let level : IsLevel (λ u. root_word u root) (RegionOwns kind) root =
              search (arith, word-kept, region-owns-same) in
              let put : IsEntryPut (λ u x. root_word u root x) (RegionOwns kind) root most_regions next e' upper' leaf' spill' upper''
              leaf'' spill'' upper3 =
              search (arith, node-taken, told.table) in
              let mid = entry-count level put is_pointer _ _ (rw is at told.upper_count) in
              let sp = entry-sum level put (region_spills kind) (region_spills-same kind) _ _ (rw is at told.spill_count) in
              let leaves = entry-sum level put (λ u l w. region_leaves u w) (region_leaves-same kind) _ _ (rw is at told.leaf_count) in
              let tables = holds-all level put (λ u l s w. is_pointer w ≡ true
              → IsMidTable kind u l s (target w)) (region-table-kept kind) way.table.tables told.table in
              let law = λ (m : List Perm) (x : ℕ) (u l s u' l' s' : Frames) (w : ℕ) (kept : _).
              region-kept kind u l s u' l' s' w kept k m x in
              let other = λ (m : List Perm) (x : ℕ). holds-other level put (λ u l s w. IsRegion kind u l s m x w) (law m x) x in
              let done = λ (m : _) (known : IsBeside kind m lay beside) (old : _) (x : ℕ) (b : x < most_regions) (lt : x < next + 1).
              either x next (IsRegion kind upper3 leaf'' spill'' (laid_by lay m) x (root_word upper3 root x)) (λ h.
              other (laid_by lay m) x b (omega arith) (way.done m known old x b h))
              (λ h. let q : x ≡ next = omega arith in rw q (holds-here level put (λ u l s w. IsRegion kind u l s (laid_by lay m) next w)
              (law _ next) (told.shown m known (at-next m known old)))) in
              let ahead = λ (m : List Perm) (known : _) (old : _) (x : ℕ) (b : x < most_regions) (le : next + 1 ≤ x).
              other m x b (omega arith) (way.ahead m known old x b (omega arith)) in
              search (
                arith,
                entry-put level put,
                move-then,
                way.move,
                done,
                ahead,
                room-more,
                way.upper_room,
                told.upper_room,
                way.leaf_room,
                told.leaf_room,
                way.spill_room,
                told.spill_room,
              )
