-- The entry of a page after a change, by the three ways in which the page can lie to the range.
use Rattle.std.proofs.Common.{◌≡◌, ℕ, ◌+◌, ◌*◌, ◌≤◌, true, false, List, refl, sym, ap, ◌∙◌, arith}
use Rattle.mx_words.specs.declared.perm.Perm.{Perm}
use Rattle.mx_words.specs.declared.tables.Kind.{Kind}
use Rattle.mx_words.specs.Rights.{number}
use Rattle.mx_words.specs.Runs.{page_words}
use Rattle.mx_words.proofs.CountingLaws.{bit-le}
use Rattle.mx_trie.specs.declared.laying.Laying.{Laying}
use Rattle.mx_trie.specs.declared.laying.Beside.{Beside}
use Rattle.mx_trie.specs.Filled.{flat_vector}
use Rattle.mx_trie.specs.Ranges.{IsApart}
use Rattle.mx_trie.specs.Walk.{Frames, is_pointer, target}
use Rattle.mx_trie.specs.Owned.{page_spills}
use Rattle.mx_trie.specs.Shown.{IsPage}
use Rattle.mx_trie.specs.Laying.{laid_by, cuts, IsBeside}
use Rattle.mx_trie.specs.Changed.{AreLinesChanged, IsPageChanged}
use Rattle.mx_trie.specs.Steps.{IsPageOpened, IsPageClosed, IsPageFreed}
use Rattle.mx_trie.proofs.HeapLaws.{move-then, move-none}
use Rattle.mx_trie.proofs.FlatLaws.{flat-closed}
use Rattle.mx_trie.proofs.BlockChanges.{cover-whole, cover-vector, apart-broken, apart-vector}
use Rattle.mx_trie.proofs.LineBeside.{few-known}
use Rattle.mx_trie.proofs.PageTables.{move-below}
use Rattle.mx_trie.proofs.RangeLaws.{length-with_range}

-- no spill words hang below a vector
pub closed-spills : (kind : Kind) (leaf : Frames) (e : ℕ) → is_pointer e ≡ false → page_spills kind leaf e ≡ 0
closed-spills kind leaf e closed = grind (arith, closed)

module _ (kind : Kind) (leaf spill : Frames) (lay : Laying) (b : Beside) (y e : ℕ) where
  -- the range covers the page
  pub page-covered : (leaf' spill' : Frames) → lay.first ≤ y * 1024 → y * 1024 + 1024 ≤ lay.end → (e' : ℕ) →
      e' ≡ flat_vector (number lay.perm) → IsPageFreed kind leaf spill leaf' spill' e →
      IsPageChanged kind leaf spill leaf' spill' lay b y e e'
  page-covered leaf' spill' from to e' is freed =
      let whole = λ (m : List Perm) (known : IsBeside kind m lay b).
      cover-whole kind m lay b known 1024 128 y refl refl (omega arith) from to in
      let alike = λ (m : List Perm) (known : IsBeside kind m lay b).
      cover-vector kind m lay b known 1024 128 y refl refl (omega arith) from to in
      search (arith, ap is_pointer is ∙ flat-closed (number lay.perm), closed-spills, whole, alike)

  -- the range has some words of the page: it is opened, its lines are changed, and it is closed
  pub page-cut : (leaf' leaf'' spill'' leaf''' : Frames) (frame e' : ℕ) → 1 ≤ cuts page_words y lay →
      IsPageOpened kind leaf spill leaf' lay b y e frame →
      AreLinesChanged kind leaf' spill leaf'' spill'' lay b y frame →
      IsPageClosed kind leaf'' spill'' leaf''' y frame e' → IsPageChanged kind leaf spill leaf''' spill'' lay b y e e'
  page-cut leaf' leaf'' spill'' leaf''' frame e' one opened lines closed =
      search (arith, few-known, length-with_range, bit-le, move-then, closed.shown, lines.shown, opened.shown)

  -- the range lies beside the page, whose lines may change their reaches
  pub page-beside : (leaf' spill' : Frames) → IsApart lay.first lay.end (y * 1024) (y * 1024 + 1024) →
      is_pointer e ≡ true → AreLinesChanged kind leaf spill leaf' spill' lay b y (target e) →
      IsPageChanged kind leaf spill leaf' spill' lay b y e e
  page-beside leaf' spill' apart pointer lines =
      let shown : (m : List Perm) → IsBeside kind m lay b → IsPage kind leaf spill m y e → IsPage kind leaf' spill' (laid_by lay m) y e =
      λ m known page.
      record {
        broken = page.broken ∙ sym (apart-broken lay m 1024 y apart);
        vector_is = λ closed. absurd (cc);
        lines = λ h.
            lines.shown m known (page.lines pointer);
      } in
      search (arith, move-below, pointer, shown)

  pub page-stays : IsApart lay.first lay.end (y * 1024) (y * 1024 + 1024) → is_pointer e ≡ false →
      IsPageChanged kind leaf spill leaf spill lay b y e e
  page-stays apart closed =
      let same = λ (m : List Perm). apart-broken lay m 1024 y apart in
      let alike = λ (m : List Perm). apart-vector lay m 1024 128 y apart refl refl (omega arith) in
      search (arith, closed, move-none, same, alike)
