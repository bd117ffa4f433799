-- The entry of a region after a change, by the three ways in which the region can lie to the range.
use Rattle.std.proofs.Common.{◌≡◌, List, ℕ, ◌+◌, ◌*◌, ◌≤◌, true, false, refl, sym, ap, ◌∙◌, arith}
use Rattle.mx_words.specs.declared.tables.Kind.{Kind}
use Rattle.mx_words.specs.Rights.{number}
use Rattle.mx_words.specs.Runs.{region_words}
use Rattle.mx_words.proofs.CountingLaws.{bit-le}
use Rattle.mx_trie.specs.declared.laying.Laying.{Laying}
use Rattle.mx_trie.specs.declared.laying.Beside.{Beside}
use Rattle.mx_trie.specs.Filled.{flat_vector}
use Rattle.mx_trie.specs.Ranges.{IsApart}
use Rattle.mx_trie.specs.Walk.{Frames, is_pointer, target}
use Rattle.mx_trie.specs.Laying.{laid_by, cuts, IsBeside}
use Rattle.mx_trie.specs.Shown.{IsRegion}
use Rattle.mx_trie.specs.Changed.{ArePagesChanged, IsRegionChanged}
use Rattle.mx_trie.specs.Steps.{IsRegionOpened, IsRegionClosed, IsRegionFreed}
use Rattle.mx_trie.proofs.HeapLaws.{move-then, move-none}
use Rattle.mx_trie.proofs.FlatLaws.{flat-closed}
use Rattle.mx_trie.proofs.BlockChanges.{cover-whole, cover-vector, apart-broken, apart-vector}
use Rattle.mx_trie.proofs.PageTables.{move-below}
use Rattle.mx_words.specs.declared.perm.Perm.{Perm}
use Rattle.mx_trie.proofs.RegionTables.{target-of}

module _ (kind : Kind) (upper leaf spill : Frames) (lay : Laying) (b : Beside) (x e : ℕ) where
  -- the range covers the region
  pub region-covered : (upper' leaf' spill' : Frames) → lay.first ≤ x * 1048576 → x * 1048576 + 1048576 ≤ lay.end →
      (e' : ℕ) → e' ≡ flat_vector (number lay.perm) →
      IsRegionFreed kind upper leaf spill upper' leaf' spill' e →
      IsRegionChanged kind upper leaf spill upper' leaf' spill' lay b x e e'
  region-covered upper' leaf' spill' from to e' is freed =
      let whole = λ (m : List Perm) (h : IsBeside kind m lay b).
      cover-whole kind m lay b h 1048576 131072 x refl refl (omega arith) from to in
      let alike = λ (m : List Perm) (h : IsBeside kind m lay b).
      cover-vector kind m lay b h 1048576 131072 x refl refl (omega arith) from to in
      search (arith, ap is_pointer is ∙ flat-closed (number lay.perm), whole, alike)

  -- the range has some words of the region: it is opened, its pages are changed, and it is closed
  pub region-cut : (upper' upper'' leaf'' spill'' upper''' : Frames) (frame e' : ℕ) → 1 ≤ cuts region_words x lay →
      IsRegionOpened kind upper leaf spill upper' e frame →
      ArePagesChanged kind upper' leaf spill upper'' leaf'' spill'' lay b x frame →
      IsRegionClosed kind upper'' leaf'' spill'' upper''' x frame e' →
      IsRegionChanged kind upper leaf spill upper''' leaf'' spill'' lay b x e e'
  region-cut upper' upper'' leaf'' spill'' upper''' frame e' one opened pages closed =
      search (arith, bit-le, move-then, closed.shown, pages.shown, opened.shown)

  -- the range lies beside the region, whose lines may change their reaches
  pub region-beside : (upper' leaf' spill' : Frames) →
      IsApart lay.first lay.end (x * 1048576) (x * 1048576 + 1048576) → is_pointer e ≡ true →
      ArePagesChanged kind upper leaf spill upper' leaf' spill' lay b x (target e) →
      IsRegionChanged kind upper leaf spill upper' leaf' spill' lay b x e e
  region-beside upper' leaf' spill' apart p pages =
      let shown : (m : List Perm) → IsBeside kind m lay b → IsRegion kind upper leaf spill m x e
      → IsRegion kind upper' leaf' spill' (laid_by lay m) x e =
      λ m known region. record {
        broken = region.broken ∙ sym (apart-broken lay m 1048576 x apart);
        vector_is = λ closed. absurd (cc);
        pages = λ h. pages.shown m known (region.pages p);
      } in
      search (arith, move-below, target-of, shown)

  pub region-stays : IsApart lay.first lay.end (x * 1048576) (x * 1048576 + 1048576) → is_pointer e ≡ false →
      IsRegionChanged kind upper leaf spill upper leaf spill lay b x e e
  region-stays apart closed =
      let same = λ (m : List Perm). apart-broken lay m 1048576 x apart in
      let alike = λ (m : List Perm). apart-vector lay m 1048576 131072 x apart refl refl (omega arith) in
      search (arith, closed, move-none, same, alike)
