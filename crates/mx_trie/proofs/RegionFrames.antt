-- The frame laws of pages and regions: where the frames of an entry stay, it owns the same, stands for the same maps, and counts the same.
use Rattle.std.proofs.Common.{◌≡◌, ℕ, ◌<◌, inl, inr, true, List, refl, arith}
use Rattle.mx_words.specs.declared.perm.Perm.{Perm}
use Rattle.mx_words.specs.declared.tables.Kind.{Kind}
use Rattle.mx_words.proofs.CountingLaws.{count_below_agree, sum_below_agree}
use Rattle.mx_pool.specs.Frames.{word_at}
use Rattle.mx_trie.specs.Leaf.{IsTrieKind}
use Rattle.mx_trie.specs.Walk.{Frames, is_pointer, target}
use Rattle.mx_trie.specs.Owned.{PlacesOwn, PageOwns, PagesOwn, RegionOwns, IsLeafTable, IsMidTable, page_spills, region_spills}
use Rattle.mx_trie.specs.Owned.{region_leaves}
use Rattle.mx_trie.specs.Shown.{IsPage, IsRegion}
use Rattle.mx_trie.proofs.EntryPuts.{IsKept}
use Rattle.mx_trie.proofs.NodeLaws.{node-kept}
use Rattle.mx_trie.proofs.PageLines.{word-kept, line-kept}

-- what a mid entry owns, as an entry of any table
abbrev pub PageOf : Kind → Frames → Frames → ℕ → ℕ → ℕ → Type 0
PageOf kind upper leaf e = PageOwns kind leaf e

module _ (kind : Kind) (upper leaf spill upper' leaf' spill' : Frames) (e : ℕ)
    (kept : IsKept (PageOf kind) upper leaf spill upper' leaf' spill' e) where
  leaf-words : is_pointer e ≡ true → (i : ℕ) → word_at leaf' (target e) i ≡ word_at leaf (target e) i
  leaf-words pointer i = word-kept leaf leaf' (target e) i (kept 1 (target e) (pointer, inl (refl, refl)))

  pub page-owns-same : (a g : ℕ) → PageOwns kind leaf' e a g → PageOwns kind leaf e a g
  page-owns-same a g own = search (arith, leaf-words)

  pub page-table-kept : (is_pointer e ≡ true → IsLeafTable kind leaf spill (target e)) → is_pointer e ≡ true →
      IsLeafTable kind leaf' spill' (target e)
  page-table-kept table pointer = node-kept _ _ 1 (target e) 64 (PlacesOwn kind leaf (target e)) _ (table pointer)
      (λ a g own. let moved = kept a g (pointer, own) in grind arith) (λ i a g below own. search (arith, leaf-words))

  pub page-kept : IsTrieKind kind → (m : List Perm) (y : ℕ) → IsPage kind leaf spill m y e →
      IsPage kind leaf' spill' m y e
  page-kept k m y page = record {
    broken = page.broken;
    vector_is = page.vector_is;
    lines = λ pointer i below. rw (leaf-words pointer i)
        (line-kept kind k spill spill' m _ _ (λ g is. kept 2 g (pointer, inr (i, (below, (refl, is))))) (page.lines pointer i below));
  }

  pub page_spills-same : page_spills kind leaf' e ≡ page_spills kind leaf e
  page_spills-same = search (arith, count_below_agree, leaf-words)

module _ (kind : Kind) (upper leaf spill upper' leaf' spill' : Frames) (e : ℕ)
    (kept : IsKept (RegionOwns kind) upper leaf spill upper' leaf' spill' e) where
  mid-words : is_pointer e ≡ true → (i : ℕ) → word_at upper' (target e) i ≡ word_at upper (target e) i
  mid-words pointer i = word-kept upper upper' (target e) i (kept 0 (target e) (pointer, inl (refl, refl)))

  pages-kept : is_pointer e ≡ true → (i : ℕ) → i < 1024 →
      IsKept (PageOf kind) upper leaf spill upper' leaf' spill' (word_at upper (target e) i)
  pages-kept pointer i below a g own = kept a g (pointer, inr (i, (below, own)))

  pages-own-same : is_pointer e ≡ true → (i a g : ℕ) → i < 1024 → PagesOwn kind upper' leaf' (target e) i a g →
      PagesOwn kind upper leaf (target e) i a g
  pages-own-same pointer i a g below own =
      page-owns-same kind upper leaf spill upper' leaf' spill' (word_at upper (target e) i) (pages-kept pointer i below) a g
      (rw mid-words at own)

  pub region-owns-same : (a g : ℕ) → RegionOwns kind upper' leaf' e a g → RegionOwns kind upper leaf e a g
  region-owns-same a g own =
      (own.0, elim own.1 [ inl h ↦ inl h | inr h ↦ inr (h.0, (h.1.0, pages-own-same own.0 h.0 a g h.1.0 h.1.1)) ])

  pub region-table-kept : (is_pointer e ≡ true → IsMidTable kind upper leaf spill (target e)) → is_pointer e ≡ true →
      IsMidTable kind upper' leaf' spill' (target e)
  region-table-kept table pointer = record {
    node = node-kept _ _ 0 (target e) 1024 _ _ (table pointer).node (λ a g own. kept a g (pointer, own)) (pages-own-same pointer);
    tables = λ i below.
        rw (mid-words pointer i) (page-table-kept kind upper leaf spill upper' leaf' spill' _ (pages-kept pointer i below)
        ((table pointer).tables i below));
  }

  pub region-kept : IsTrieKind kind → (m : List Perm) (x : ℕ) → IsRegion kind upper leaf spill m x e →
      IsRegion kind upper' leaf' spill' m x e
  region-kept k m x region = record {
    broken = region.broken;
    vector_is = region.vector_is;
    pages = λ pointer i below.
        rw (mid-words pointer i) (page-kept kind upper leaf spill upper' leaf' spill' _ (pages-kept pointer i below) k m _
        (region.pages pointer i below));
  }

  pub region_spills-same : region_spills kind upper' leaf' e ≡ region_spills kind upper leaf e
  region_spills-same =
      let each = λ (pointer : is_pointer e ≡ true) (i : ℕ) (below : i < 1024).
      page_spills-same kind upper leaf spill upper' leaf' spill' _ (pages-kept pointer i below) in
      search (arith, sum_below_agree, each, mid-words)

  pub region_leaves-same : region_leaves upper' e ≡ region_leaves upper e
  region_leaves-same = search (arith, count_below_agree, mid-words)
