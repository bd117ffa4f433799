-- The mid table of a region: made, kept or given back.
use Rattle.std.proofs.Common.{◌≡◌, ◌≢◌, ℕ, ◌+◌, ◌*◌, ◌/◌, ◌%◌, ◌<◌, true, false, List, length, Some, None, refl, sym, ap, ◌∙◌, arith}
use Rattle.std.proofs.lemmas.Bool.{eqb-true}
use Rattle.mx_words.specs.declared.perm.Perm.{Perm}
use Rattle.mx_words.specs.declared.tables.Kind.{Kind}
use Rattle.mx_words.specs.Counting.{bit}
use Rattle.mx_words.specs.Reach.{vector}
use Rattle.mx_words.specs.Runs.{region_words}
use Rattle.mx_words.specs.Blocks.{is_broken}
use Rattle.mx_words.proofs.BlockLaws.{even_is}
use Rattle.mx_pool.specs.Frames.{frame_at, word_at, free_in}
use Rattle.mx_trie.specs.Walk.{Frames, is_pointer, target}
use Rattle.mx_trie.specs.Heap.{heap, IsMove}
use Rattle.mx_trie.specs.Owned.{MidOwns, RegionOwns, IsMidTable, region_spills, region_leaves}
use Rattle.mx_trie.specs.Shown.{ArePages, IsRegion}
use Rattle.mx_trie.specs.Steps.{IsEntryOf, IsRegionOpened, IsClosableRegion, IsRegionClosed, IsRegionFreed, ArePagesFreed}
use Rattle.mx_trie.specs.OnWay.{IsRegionFilled}
use Rattle.mx_trie.proofs.HeapLaws.{move-none}
use Rattle.mx_trie.proofs.NodeLaws.{node-plain}
use Rattle.mx_trie.proofs.LineChanges.{taken-differs}
use Rattle.mx_trie.proofs.FlatLaws.{flat-closed, region-page-even, region-page-vector}
use Rattle.mx_trie.proofs.EvenTables.{even-of}
use Rattle.mx_trie.proofs.PageTables.{vector-closed, pointer-open, told-some, told-none}
use Rattle.mx_trie.proofs.RegionPages.{no-leaves, no-spills}

-- a pointer is four times its frame
pub target-of : (e : ℕ) → is_pointer e ≡ true → 4 * target e ≡ e
target-of e pointer = let h = eqb-true (e % 4) 0 pointer in omega arith

-- a region with a vector has nothing to give back
pub region-empty : (kind : Kind) (upper leaf spill : Frames) (e : ℕ) → is_pointer e ≡ false →
    IsRegionFreed kind upper leaf spill upper leaf spill e
region-empty kind upper leaf spill e closed = search (arith, closed, move-none)

-- a mid table below which nothing hangs is given back
pub region-freed : (kind : Kind) (upper leaf spill upper' leaf' spill' upper'' : Frames) (e : ℕ) →
    is_pointer e ≡ true → ArePagesFreed kind upper leaf spill upper' leaf' spill' (target e) →
    ((g : ℕ) → g ≢ target e → frame_at upper'' g ≡ frame_at upper' g) → free_in upper'' ≡ free_in upper' + 1 →
    length upper'' ≡ length upper' → IsRegionFreed kind upper leaf spill upper'' leaf' spill' e
region-freed kind upper leaf spill upper' leaf' spill' upper'' e pointer pages elsewhere more total =
    search (arith, pointer, target-of)

-- a table that was filled with vectors
pub region-filled : (kind : Kind) (upper leaf spill upper' : Frames) (e frame : ℕ) → is_pointer e ≡ false →
    IsRegionFilled upper upper' e frame 8 →
    IsRegionOpened kind upper leaf spill upper' e frame
region-filled kind upper leaf spill upper' e frame closed filled =
    let closed-page : (k : ℕ) → k < 1024 → is_pointer (word_at upper' frame k) ≡ false =
    λ k below. grind (arith, filled.vectors, flat-closed) in
    let move : IsMove (heap upper leaf spill) (heap upper' leaf spill) (RegionOwns kind upper leaf e) (MidOwns kind upper' leaf frame) =
    search (arith, taken-differs, closed-page) in
    let shown : (m : List Perm) (x : ℕ) → IsRegion kind upper leaf spill m x e → ArePages kind upper' leaf spill m x frame =
    λ m x region k below.
    let even = even-of 1048576 131072 m x refl refl (omega arith) (sym region.broken ∙ closed) in
    let at : (x * 1024 + k) / 1024 ≡ x = omega arith in
    let part : k / 128 ≡ (x * 1024 + k) % 1024 / 128 = omega arith in
    search (
      arith,
      closed-page,
      even_is 1024 128 m (x * 1024 + k) refl
          refl,
      region-page-even,
      filled.vectors,
      region-page-vector,
      region.vector_is,
      part,
    ) in
    let table : IsMidTable kind upper' leaf spill frame = search (arith, node-plain, closed-page) in
    let leaves : region_leaves upper e ≡ 0 = grind arith in
    let spills : region_spills kind upper leaf e ≡ 0 = grind arith in
    search (arith, table, ap bit closed, filled.free, closed-page, move, shown, leaves, no-leaves, spills, no-spills)

-- a table that stays where the region is broken
pub region-open : (kind : Kind) (upper leaf spill : Frames) (x frame : ℕ) → IsMidTable kind upper leaf spill frame →
    ((m : List Perm) → ArePages kind upper leaf spill m x frame → IsEntryOf region_words m x None) →
    IsRegionClosed kind upper leaf spill upper x frame (4 * frame)
region-open kind upper leaf spill x frame table broken = let at : target (4 * frame) ≡ frame = omega arith in
    let move = move-none (heap upper leaf spill) (MidOwns kind upper leaf frame) (RegionOwns kind upper leaf (4 * frame)) (λ a g own.
    rw at at own.1) in
    search (arith, at, move, pointer-open, told-none, broken)

-- a table that is given back where it isn't
pub region-closed : (kind : Kind) (upper leaf spill upper' : Frames) (x frame e : ℕ) →
    IsClosableRegion kind upper leaf spill x frame →
    ((m : List Perm) → ArePages kind upper leaf spill m x frame → IsEntryOf region_words m x (Some e)) →
    ((g : ℕ) → g ≢ frame → frame_at upper' g ≡ frame_at upper g) →
    free_in upper' ≡ free_in upper + 1 → length upper' ≡ length upper →
    IsRegionClosed kind upper leaf spill upper' x frame e
region-closed kind upper leaf spill upper' x frame e closable whole elsewhere more total = let n = closable.map in
    let told = λ (m : List Perm) (pages : ArePages kind upper leaf spill m x frame).
    told-some (is_broken 1048576 m x) (vector 1048576 m (x * 1048576)) e (whole m pages) in
    let plain : (k : ℕ) → k < 1024 → is_pointer (word_at upper frame k) ≡ false = λ k below. grind (
      arith,
      closable.stands k below,
      even_is 1024 128 n (x * 1024 + k) refl refl,
      region-page-even n x,
      even-of 1048576 131072 n x refl refl,
      told n closable.stands,
    ) in
    search (arith, vector-closed 1048576 n (x * 1048576) e (told n closable.stands).1, told, no-leaves, plain, no-spills)
