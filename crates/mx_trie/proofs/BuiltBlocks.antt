-- Lines, pages, regions and domains built for a map: the laws of BuiltTables at each level, and the frames that they take.
use Rattle.std.proofs.Common.{◌≡◌, ◌≢◌, ℕ, zero, suc, ◌+◌, ◌*◌, ◌/◌, ◌<◌, ◌≤◌, Bool, true, false, List, [], length, None, inl, inr, refl}
use Rattle.std.proofs.Common.{sym, ap, ◌∙◌, subst, arith}
use Rattle.mx_words.specs.declared.perm.Perm.{Perm}
use Rattle.mx_words.specs.declared.tables.Kind.{Kind}
use Rattle.mx_words.specs.Blocks.{is_broken, IsEven}
use Rattle.mx_words.specs.Counting.{bit, sum_below}
use Rattle.mx_words.specs.Reach.{vector, line_at}
use Rattle.mx_words.specs.Runs.{page_words, region_words}
use Rattle.mx_words.proofs.CountingLaws.{cases_below, sum_below-zero, sum_below-more}
use Rattle.mx_pool.specs.Frames.{frame_at, IsTaken, word_at, free_in}
use Rattle.mx_trie.specs.Leaf.{IsTrieKind, needs_spill}
use Rattle.mx_trie.specs.Walk.{Frames, is_pointer, target, root_place, root_word}
use Rattle.mx_trie.specs.Steps.{IsPlaceWritten}
use Rattle.mx_trie.specs.Built.{page_crowd, region_crowd, region_broken, AreTaken, pools, LinesOwn, LineStands, PagesOwning, PageStands}
use Rattle.mx_trie.specs.Built.{RegionsOwning, RegionStands, Own, IsLineBuilt, AreLinesBuilt, IsPageBuilt, ArePagesBuilt, IsRegionBuilt}
use Rattle.mx_trie.specs.Built.{AreRegionsBuilt}
use Rattle.mx_trie.proofs.PageLines.{word-kept, line-kept}
use Rattle.mx_trie.proofs.PageTables.{vector-closed}
use Rattle.mx_trie.proofs.FlatLaws.{flat-needs, even-line, region-page-even}
use Rattle.mx_trie.proofs.EvenTables.{even-of, whole-by}
use Rattle.mx_trie.proofs.RegionPages.{sum_below-none}
use Rattle.mx_trie.proofs.RegionFrames.{page-owns-same, page-table-kept, page-kept, region-owns-same, region-table-kept, region-kept}
use Rattle.mx_trie.proofs.BuiltTables.{built-more, table-built}

pub sum-within : (n most : ℕ) (f : ℕ → ℕ) → n < most → sum_below n f + f n ≤ sum_below most f
unfolding sum_below
sum-within n zero f below = absurd (omega arith)
sum-within n (suc k) f below =
    elim (cases_below n k below) [ inl h ↦ omega (arith, sum-within n k f h) | inr h ↦ rw h (omega arith) ]

-- a block that is broken needs a table
pub broken-room : (b : Bool) (n : ℕ) → b ≡ true → bit b ≤ n → 0 < n
broken-room b n broken room = grind arith

-- what the next part needs is free where what all need was
pub taken-left : (frames frames' : Frames) (n most : ℕ) (f : ℕ → ℕ) → AreTaken frames frames' (sum_below n f) →
    n < most → sum_below most f ≤ free_in frames → f n ≤ free_in frames'
taken-left frames frames' n most f taken below room = omega (arith, sum-within n most f below)

pub one-more-left : (frames frames' : Frames) (n most : ℕ) (f : ℕ → ℕ) → AreTaken frames frames' (1 + sum_below n f) →
    n < most → 1 + sum_below most f ≤ free_in frames → f n ≤ free_in frames'
one-more-left frames frames' n most f taken below room = omega (arith, sum-within n most f below)

-- no line of an even page needs a spill word
pub even-needs : (kind : Kind) (m : List Perm) (y z : ℕ) → z / 64 ≡ y → IsEven m (y * page_words) 128 →
    needs_spill kind (line_at m (z * 16)) ≡ false
even-needs kind m y z at even = ap (needs_spill kind) (even-line m y z at even) ∙ flat-needs kind _

pub even-crowd : (kind : Kind) (m : List Perm) (y : ℕ) → IsEven m (y * page_words) 128 → page_crowd kind m y ≡ 0
even-crowd kind m y even = search (arith, sum_below-none, even-needs)

-- an even page
pub page-even : (kind : Kind) (m : List Perm) (y : ℕ) (leaf spill : Frames) (e : ℕ) →
    is_broken page_words m y ≡ false → e ≡ vector page_words m (y * page_words) →
    IsPageBuilt kind leaf spill leaf spill m y e
page-even kind m y leaf spill e whole is =
    search (arith, even-crowd, vector-closed page_words m (y * page_words) e is, even-of 1024 128 m y refl refl (omega arith) whole)

-- the lines of a page
module _ (kind : Kind) (k : IsTrieKind kind) (m : List Perm) (y : ℕ) where
  pub lines-begun : (leaf spill leaf' : Frames) (frame : ℕ) → frame_at leaf frame ≡ None → IsTaken leaf' frame →
      ((g : ℕ) → g ≢ frame → frame_at leaf' g ≡ frame_at leaf g) → AreTaken leaf leaf' 1 →
      AreLinesBuilt kind leaf spill leaf' spill m y frame 0
  lines-begun leaf spill leaf' frame free taken elsewhere one = search (arith, sum_below-zero)

  pub lines-built-more : (leaf spill leaf' spill' leaf'' spill'' : Frames) (frame n e : ℕ) →
      AreLinesBuilt kind leaf spill leaf' spill' m y frame n → IsLineBuilt kind spill' spill'' m (y * 64 + n) e →
      IsPlaceWritten leaf' leaf'' frame n e → AreLinesBuilt kind leaf spill leaf'' spill'' m y frame (n + 1)
  lines-built-more leaf spill leaf' spill' leaf'' spill'' frame n e are line written = search (
    arith,
    sum_below-more,
    λ (upper : Frames). built-more _ _
        (λ s s' z e line kept. (λ a g own. own, line-kept kind k s.spill s'.spill m z e (λ g is. kept 2 g (refl, is)) line)) _ _ _
        (pools upper leaf'' spill'') _ _ n _ (word_at leaf'' frame) e
        (are.built upper) (line.built upper leaf') (λ a g not. grind (arith, written.elsewhere)) (λ a g own. grind arith) (λ i below.
        written.others i (λ h. omega arith)) written.here,
  )

  -- the page's entry
  pub page-built : (leaf spill leaf' spill' : Frames) (e : ℕ) → is_pointer e ≡ true →
      is_broken page_words m y ≡ true → AreLinesBuilt kind leaf spill leaf' spill' m y (target e) 64 →
      IsPageBuilt kind leaf spill leaf' spill' m y e
  page-built leaf spill leaf' spill' e pointer broken lines = search (
    arith,
    broken,
    λ (upper : Frames). table-built (LinesOwn kind) (PagesOwning kind) (LineStands kind m) (PageStands kind m)
        _ _ (Own 1 (target e)) _ 64 _ y e (lines.built upper) (λ a g o. o.1) (
          λ p.
              search (arith, lines.built [], (lines.built []).self, (lines.built []).other),
          search (arith, (lines.built []).stand),
        ),
  )

  -- the pages of a region y
  pub pages-begun : (upper leaf spill upper' : Frames) (frame : ℕ) → frame_at upper frame ≡ None →
      IsTaken upper' frame → ((g : ℕ) → g ≢ frame → frame_at upper' g ≡ frame_at upper g) → AreTaken upper upper' 1 →
      ArePagesBuilt kind upper leaf spill upper' leaf spill m y frame 0
  pages-begun upper leaf spill upper' frame free taken elsewhere one = search (arith, sum_below-zero)

  pub pages-built-more : (upper leaf spill upper' leaf' spill' upper'' leaf'' spill'' : Frames) (frame n e : ℕ) →
      ArePagesBuilt kind upper leaf spill upper' leaf' spill' m y frame n →
      IsPageBuilt kind leaf' spill' leaf'' spill'' m (y * 1024 + n) e → IsPlaceWritten upper' upper'' frame n e →
      ArePagesBuilt kind upper leaf spill upper'' leaf'' spill'' m y frame (n + 1)
  pages-built-more upper leaf spill upper' leaf' spill' upper'' leaf'' spill'' frame n e are page written = search (
    arith,
    sum_below-more,
    built-more _ _ (λ s s' b e p kept. (
      page-owns-same kind _ _ _ _ _ _ e kept,
      (
        page-table-kept kind _ _ _ _ _ _ e kept p.0,
        page-kept kind _ _ _ _ _ _ e kept k m b
            p.1,
      ),
    )) _ _ _ (pools upper'' leaf'' spill'') _ _ n _
        (word_at upper'' frame) e are.built (page.built upper') (λ a g not. grind (arith, written.elsewhere)) (λ a g own. grind arith)
        (search (arith, written.others)) written.here,
  )

  -- the region's entry
  pub region-built : (upper leaf spill upper' leaf' spill' : Frames) (e : ℕ) → is_pointer e ≡ true →
      is_broken region_words m y ≡ true →
      ArePagesBuilt kind upper leaf spill upper' leaf' spill' m y (target e) 1024 →
      IsRegionBuilt kind upper leaf spill upper' leaf' spill' m y e
  region-built upper leaf spill upper' leaf' spill' e pointer broken pages = assumption (
    subst (AreTaken upper upper') (sym (ap bit broken)) pages.upper_taken,
    table-built (PagesOwning kind) (RegionsOwning kind) (PageStands kind m) (RegionStands kind m) _ _ (Own 0 (target e)) _ 1024 _ y e
        pages.built (λ a g o. o.1) (
          λ p. record {
            node =
                search (pages.built.self, pages.built.other);
            tables = λ i b. (pages.built.stand i b).0;
          },
          record { broken = cc; vector_is = λ c. absurd (cc); pages = λ p i b. (pages.built.stand i b).1 },
        ),
  )

-- the pages of an even region
module _ (kind : Kind) (m : List Perm) (x : ℕ) (whole : is_broken region_words m x ≡ false) where
  pub even-broken : region_broken m x ≡ 0
  even-broken =
      sum_below-none 1024 _ (λ i b. ap bit (whole-by 1024 128 m _ refl refl (omega arith)
      (region-page-even m x _ (omega arith) (even-of _ 131072 m x refl refl (omega arith) whole)).parts))

  pub even-crowds : region_crowd kind m x ≡ 0
  even-crowds =
      sum_below-none 1024 _ (λ i below. even-crowd kind m _ (region-page-even m x _ (omega arith)
      (even-of 1048576 131072 m x refl refl (omega arith) whole)))

  pub region-even : (upper leaf spill : Frames) (e : ℕ) → e ≡ vector region_words m (x * region_words) →
      IsRegionBuilt kind upper leaf spill upper leaf spill m x e
  region-even upper leaf spill e is =
      search (arith, even-broken, even-crowds, vector-closed region_words m (x * region_words) e is)

-- the regions of a domain
module _ (kind : Kind) (k : IsTrieKind kind) (m : List Perm) where
  pub regions-begun : (upper leaf spill upper' : Frames) (root : ℕ) → frame_at upper root ≡ None →
      IsTaken upper' root → ((g : ℕ) → g ≢ root → frame_at upper' g ≡ frame_at upper g) → AreTaken upper upper' 1 →
      AreRegionsBuilt kind upper leaf spill upper' leaf spill m root 0
  regions-begun upper leaf spill upper' root free taken elsewhere one = search (arith, sum_below-zero)

  pub regions-built-more : (upper leaf spill upper' leaf' spill' between upper'' leaf'' spill'' : Frames)
      (root n e : ℕ) → AreRegionsBuilt kind upper leaf spill upper' leaf' spill' m root n →
      IsRegionBuilt kind upper' leaf' spill' between leaf'' spill'' m n e → root_word upper'' root n ≡ e →
      ((x : ℕ) → x ≢ n → root_word upper'' root x ≡ root_word between root x) →
      IsTaken upper'' root → ((g : ℕ) → g ≢ root → frame_at upper'' g ≡ frame_at between g) →
      free_in upper'' ≡ free_in between → length upper'' ≡ length between →
      AreRegionsBuilt kind upper leaf spill upper'' leaf'' spill'' m root (n + 1)
  regions-built-more upper leaf spill upper' leaf' spill' between upper'' leaf'' spill'' root n e are region here others taken elsewhere
      free total = search (
        arith,
        sum_below-more,
        built-more _ _
            (λ s s' x e r kept. (
              region-owns-same kind _ _ _ _ _ _ e
                  kept,
              (region-table-kept kind _ _ _ _ _ _ e kept r.0, region-kept kind _ _ _ _ _ _ e kept k m x r.1),
            )) _ _ _
            (pools upper'' leaf'' spill'') _ _ n _ (root_word upper'' root) e are.built region.built (λ a g not. grind (arith, elsewhere))
            (λ a g own. grind arith)
            (λ x below. others x (λ h. omega arith) ∙ word-kept upper' between root (root_place x)
            (region.built.stays 0 root (are.built.self 0 root (refl, refl)))) here,
      )
