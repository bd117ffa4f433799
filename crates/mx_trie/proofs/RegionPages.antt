-- The pages of a region, exchanged one by one in its mid table: given back, or changed.
use Rattle.std.proofs.Common.{◌≡◌, ◌≢◌, ℕ, zero, suc, ◌+◌, ◌-◌, ◌*◌, ◌/◌, ◌%◌, ◌<◌, ◌≤◌, ◌⊎◌, inl, inr, true, false, min, List, [], length}
use Rattle.std.proofs.Common.{IsSome, refl, arith}
use Rattle.mx_words.specs.declared.perm.Perm.{Perm}
use Rattle.mx_words.specs.declared.tables.Kind.{Kind}
use Rattle.mx_words.specs.Counting.{bit, sum_below}
use Rattle.mx_words.proofs.CountingLaws.{cases_below, count_below_none}
use Rattle.mx_table.specs.Tables.{most_words}
use Rattle.mx_pool.specs.Frames.{word_at, free_in}
use Rattle.mx_trie.specs.declared.laying.Laying.{Laying}
use Rattle.mx_trie.specs.declared.laying.Beside.{Beside}
use Rattle.mx_trie.specs.Leaf.{IsTrieKind, form_reach}
use Rattle.mx_trie.specs.Ranges.{IsApart}
use Rattle.mx_trie.specs.Walk.{Frames, most_pages, most_regions, is_pointer, target}
use Rattle.mx_trie.specs.Heap.{heap, IsMove}
use Rattle.mx_trie.specs.Owned.{PageOwns, IsLeafTable, IsMidTable, page_spills, region_spills, region_leaves}
use Rattle.mx_trie.specs.Shown.{IsPage, ArePages}
use Rattle.mx_trie.specs.Laying.{laid_by, IsBeside}
use Rattle.mx_trie.specs.Changed.{IsPageChanged, ArePagesChanged}
use Rattle.mx_trie.specs.Steps.{IsPlaceWritten, IsPageFreed, ArePagesFreed, IsSomePage, AreSomePages}
use Rattle.mx_trie.specs.OnWay.{ArePagesMoved, ArePagesEmptied, ArePagesOnWay}
use Rattle.mx_trie.proofs.HeapLaws.{move-then, move-none}
use Rattle.mx_trie.proofs.NodeLaws.{node-taken, either}
use Rattle.mx_trie.proofs.EntryPuts.{IsLevel, IsEntryPut, entry-put, entry-count, entry-sum, holds-all, holds-other}
use Rattle.mx_trie.proofs.RegionFrames.{PageOf, page-owns-same, page-table-kept, page-kept, page_spills-same}
use Rattle.mx_trie.proofs.PageLines.{word-kept, far-line}
use Rattle.mx_trie.proofs.PageTables.{pointer-open}
use Rattle.mx_trie.proofs.PageChanges.{closed-spills}
use Rattle.mx_trie.proofs.BlockChanges.{apart-broken, apart-vector}
use Rattle.mx_trie.proofs.Cuts.{cuts-step, cuts-start, room-more, room-start, room-end}

page-level : (kind : Kind) (frame : ℕ) → IsLevel (λ u i. word_at u frame i) (PageOf kind) frame
page-level kind frame = search (arith, word-kept, page-owns-same)

-- the table of an entry that was read
pub page-at : (kind : Kind) (upper leaf spill : Frames) (frame k e : ℕ) → k < 1024 → e ≡ word_at upper frame k →
    IsMidTable kind upper leaf spill frame → is_pointer e ≡ true → IsLeafTable kind leaf spill (target e)
page-at kind upper leaf spill frame k e below is table = search (arith, table.tables)

-- the entry of a page, and what it owns, is exchanged
pub record IsPageMoved (kind : Kind) (leaf spill leaf' spill' : Frames) (e e' : ℕ) : Type 0 where
  pub table : is_pointer e' ≡ true → IsLeafTable kind leaf' spill' (target e')
  pub move : IsMove (heap [] leaf spill) (heap [] leaf' spill') (PageOwns kind leaf e) (PageOwns kind leaf' e')
  pub leaf_count : free_in leaf' + bit (is_pointer e') ≡ free_in leaf + bit (is_pointer e)
  pub leaf_total : length leaf' ≡ length leaf
  pub spill_count : free_in spill' + page_spills kind leaf' e' ≡ free_in spill + page_spills kind leaf e
  pub spill_total : length spill' ≡ length spill

module _ (kind : Kind) (upper leaf spill leaf' spill' upper'' : Frames) (frame place e' : ℕ) (within : place < 1024)
    (table : IsMidTable kind upper leaf spill frame)
    (page : IsPageMoved kind leaf spill leaf' spill' (word_at upper frame place) e')
    (written : IsPlaceWritten upper upper'' frame place e') where
  put : IsEntryPut (λ u i. word_at u frame i)
      (PageOf kind) frame 1024 place e' upper leaf spill upper leaf' spill' upper''
  put =
      let taken : (a g : ℕ) → PageOwns kind leaf' e' a g → IsSome (heap upper leaf' spill' a g) =
      λ x g own. grind (arith, node-taken _ 1 (target e') 64 _ (page.table own.0) x g own.1) in
      search (arith, within, page.move.stays 1, page.move.stays 2, page.move.none 1, page.move.none 2)

  -- the pages of the table so far, and one more
  pub pages-moved : (upper' leaf0 spill0 : Frames) → ArePagesMoved kind upper' leaf0 spill0 upper leaf spill frame →
      ArePagesMoved kind upper' leaf0 spill0 upper'' leaf' spill' frame
  pages-moved upper' leaf0 spill0 was =
      let level = page-level kind frame in let at : 4 * frame / 4 ≡ frame = omega arith in
      let a = rw (pointer-open, at) at was.leaf_count in let b = rw (pointer-open, at) at was.spill_count in
      let leaves = entry-count level put is_pointer _ _ page.leaf_count in
      let spills = entry-sum level put (λ u l e. page_spills kind l e) (page_spills-same kind) (free_in spill) (free_in spill')
      page.spill_count in
      let tables = holds-all level put (λ u l s w. is_pointer w ≡ true
      → IsLeafTable kind l s (target w)) (page-table-kept kind) table.tables page.table in
      search (arith, entry-put level put, move-then, was.move, pointer-open, at, a, b, leaves, spills)

  -- another page stands as before
  pub page-other : IsTrieKind kind → (m : List Perm) (y i : ℕ) → i < 1024 → i ≢ place →
      IsPage kind leaf spill m y (word_at upper frame i) → IsPage kind leaf' spill' m y (word_at upper'' frame i)
  page-other k m y i below ne was =
      holds-other (page-level kind frame) put (λ u l s w. IsPage kind l s m y w) (λ u l s u' l' s' e kept.
      page-kept kind u l s u' l' s' e kept k m y) i below ne was

-- nothing is exchanged yet
pub pages-same : (kind : Kind) (upper leaf spill : Frames) (frame : ℕ) → IsMidTable kind upper leaf spill frame →
    ArePagesMoved kind upper leaf spill upper leaf spill frame
pages-same kind upper leaf spill frame table = search (arith, move-none)

-- a page is given back, and a vector is written for it
module _ (kind : Kind) (upper leaf spill upper' leaf' spill' upper'' leaf'' spill'' : Frames) (frame next e' : ℕ)
    (within : next < 1024) (way : ArePagesEmptied kind upper leaf spill upper' leaf' spill' frame next) where
  pub pages-emptied : is_pointer e' ≡ false →
      IsPageFreed kind leaf' spill' leaf'' spill'' (word_at upper' frame next) →
      IsPlaceWritten upper' upper'' frame next e' →
      ArePagesEmptied kind upper leaf spill upper'' leaf'' spill'' frame (next + 1)
  pages-emptied closed freed written =
      let page : IsPageMoved kind leaf' spill' leaf'' spill'' (word_at upper' frame next) e' =
      search (arith, closed-spills kind leaf'' e' closed, freed.move.stays) in
      search (
        arith,
        pages-moved _ _ _ _ _ _ _ _ _ _ within way.moved.table page written upper leaf spill
            way.moved,
        cases_below,
        written.others,
        way.closed,
      )

  -- a page that has a vector stays
  pub pages-passed : is_pointer (word_at upper' frame next) ≡ false →
      ArePagesEmptied kind upper leaf spill upper' leaf' spill' frame (next + 1)
  pages-passed closed = search (arith, cases_below, way.closed)

-- a sum of nothing
pub sum_below-none : (n : ℕ) (f : ℕ → ℕ) → ((i : ℕ) → i < n → f i ≡ 0) → sum_below n f ≡ 0
unfolding sum_below
sum_below-none zero f none = refl
sum_below-none (suc n) f none =
    omega (arith, none n (omega arith), sum_below-none n f (λ i below. none i (omega arith)))

-- no page of a mid table has a table
module _ (kind : Kind) (upper leaf : Frames) (frame : ℕ)
    (closed : (k : ℕ) → k < 1024 → is_pointer (word_at upper frame k) ≡ false) where
  pub no-leaves : region_leaves upper (4 * frame) ≡ 0
  no-leaves = search (arith, pointer-open, count_below_none)

  pub no-spills : region_spills kind upper leaf (4 * frame) ≡ 0
  no-spills = search (arith, pointer-open, sum_below-none, closed-spills)

pub pages-freed : (kind : Kind) (upper leaf spill upper' leaf' spill' : Frames) (frame : ℕ) →
    ArePagesEmptied kind upper leaf spill upper' leaf' spill' frame 1024 →
    ArePagesFreed kind upper leaf spill upper' leaf' spill' frame
pages-freed kind upper leaf spill upper' leaf' spill' frame way = search (arith, no-leaves, no-spills)

-- a page far from the range
pub far-page : (kind : Kind) (leaf spill : Frames) (m : List Perm) (lay : Laying) (b : Beside) →
    IsBeside kind m lay b → (y e : ℕ) → y < most_pages →
    (y < (lay.first - form_reach kind) / 1024) ⊎ (min (lay.end - 1 + form_reach kind) (most_words - 1) / 1024 < y) →
    IsPage kind leaf spill m y e → IsPage kind leaf spill (laid_by lay m) y e
far-page kind leaf spill m lay b known y e below far page =
    let apart : IsApart lay.first lay.end (y * 1024) (y * 1024 + 1024) = (let s = lay.some in grind arith) in
    let lines = λ (i : ℕ) (inside : i < 64). far-line kind spill m lay b known (y * 64 + i) (word_at leaf (target e) i) (omega arith)
    (grind arith) in
    search (
      arith,
      page.vector_is,
      page.lines,
      apart-broken lay m 1024 y apart,
      apart-vector lay m 1024 128 y apart refl refl
          (omega arith),
      lines,
    )

module _ (kind : Kind) (k : IsTrieKind kind) (upper leaf spill : Frames) (lay : Laying) (beside : Beside)
    (x frame : ℕ) (below : x < most_regions) where
  -- nothing is changed yet
  pub pages-none : (next : ℕ) → IsMidTable kind upper leaf spill frame → x * 1024 ≤ next →
      ((k : ℕ) → k < 1024 → x * 1024 + k < next → x * 1024 + k < (lay.first - form_reach kind) / 1024) →
      ArePagesOnWay kind upper leaf spill upper leaf spill lay beside x frame next
  pages-none next table from far =
      let start = cuts-start 1024 next 1048576 x lay (omega arith) in
      let done = λ (m : _) (known : IsBeside kind m lay beside) (i : ℕ) (b : _) (l : _). far-page
      kind leaf spill m _ _ known (x * 1024 + i) (word_at upper frame i) (omega arith) (inl (far i b l)) in
      search (arith, pages-same kind upper leaf spill frame table, done, room-start)

  module _ (upper' leaf' spill' : Frames) (next : ℕ)
      (way : ArePagesOnWay kind upper leaf spill upper' leaf' spill' lay beside x frame next) where
    -- all pages are changed that may be
    pub pages-all : ((k : ℕ) → k < 1024 → next ≤ x * 1024 + k →
        min (lay.end - 1 + form_reach kind) (most_words - 1) / 1024 < x * 1024 + k) →
        ArePagesChanged kind upper leaf spill upper' leaf' spill' lay beside x frame
    pages-all far =
        let shown = λ (m : _) (known : IsBeside kind m lay beside) (old : _) (i : ℕ) (b : _).
        either (x * 1024 + i) next _ (way.done m known old i b)
        (λ h. far-page _ _ _ m _ _ known _ _ (omega arith) (inr (far i b h)) (way.ahead m known old i b h)) in
        search (arith, shown, room-end, way.leaf_room, way.spill_room)

    module _ (from : x * 1024 ≤ next) (to : next < x * 1024 + 1024) (e : ℕ)
        (is : e ≡ word_at upper' frame (next % 1024)) where
      -- the next page's entry
      at-next : (m : List Perm) → IsBeside kind m lay beside → ArePages kind upper leaf spill m x frame →
          IsPage kind leaf' spill' m next e
      at-next m known pages =
          let here : x * 1024 + next % 1024 ≡ next = omega arith in
          rw is (rw here at (way.ahead m known pages (next % 1024) (omega arith) (omega arith)))

      pub next-page : AreSomePages kind upper leaf spill lay beside x frame →
          IsSomePage kind leaf' spill' lay beside next e
      next-page some = search (arith, at-next)

      pub next-table : is_pointer e ≡ true → IsLeafTable kind leaf' spill' (target e)
      next-table = page-at kind upper' leaf' spill' frame (next % 1024) e (omega arith) is way.moved.table

      -- one more page is changed
      module _ (upper'' leaf'' spill'' : Frames) (e' : ℕ)
          (told : IsPageChanged kind leaf' spill' leaf'' spill'' lay beside next e e')
          (written : IsPlaceWritten upper' upper'' frame (next % 1024) e') where
        pub pages-more : ArePagesOnWay kind upper leaf spill upper'' leaf'' spill'' lay beside x frame (next + 1)
        pages-more =
            let within : next % 1024 < 1024 = omega arith in
            let page : IsPageMoved kind leaf' spill' leaf'' spill'' (word_at upper' frame (next % 1024)) e' =
            search arith in
            let less = cuts-step 1024 next (x * 1048576 + 1048576) lay (omega arith) (omega arith) in
            let other = page-other _ _ _ _ _ _ _ _ _ _ within way.moved.table page written k in
            let done = λ (m : _) (known : IsBeside kind m lay beside) (old : _) (i : ℕ) (b : i < 1024) (lt : x * 1024 + i < next + 1).
            either (x * 1024 + i) next (IsPage kind leaf'' spill'' (laid_by lay m) (x * 1024 + i) (word_at upper'' frame i)) (λ h.
            other _ _ i b (omega arith) (way.done m known old i b h))
            (λ h. let place : i ≡ next % 1024 = omega arith in let here : x * 1024 + i ≡ next = omega arith in
            rw (here, place, written.here) (told.shown m known (at-next m known old))) in
            let ahead = λ (m : List Perm) (known : _) (old : _) (i : ℕ) (b : i < 1024) (le : next + 1 ≤ x * 1024 + i).
            other m _ i b (omega arith) (way.ahead m known old i b (omega arith)) in
            search (
              arith,
              pages-moved _ _ _ _ _ _ _ _ _ _ within way.moved.table page written _ _ _
                  way.moved,
              done,
              ahead,
              room-more,
              way.leaf_room,
              told.leaf_room,
              way.spill_room,
              told.spill_room,
            )
