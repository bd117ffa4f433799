-- A domain that stands for a map has as many tables and spill words as the map needs.
use Rattle.std.proofs.Common.{◌≡◌, ℕ, zero, suc, ◌+◌, ◌-◌, ◌*◌, ◌<◌, ◌≤◌, Bool, true, false, List, length, if◌then◌else◌, refl, sym, ap}
use Rattle.std.proofs.Common.{◌∙◌, arith}
use Rattle.std.proofs.lemmas.List.{get_or_past}
use Rattle.mx_words.specs.declared.perm.Perm.{Perm}
use Rattle.mx_words.specs.declared.tables.Kind.{Kind}
use Rattle.mx_words.specs.Blocks.{is_broken}
use Rattle.mx_words.specs.Counting.{bit, count_below, sum_below}
use Rattle.mx_words.specs.Reach.{line_at}
use Rattle.mx_words.specs.Runs.{page_words, region_words, broken_blocks}
use Rattle.mx_words.proofs.CountingLaws.{sum_below-more, sum_below_agree}
use Rattle.mx_words.proofs.BlockLaws.{broken_blocks-count}
use Rattle.mx_table.specs.Tables.{most_words}
use Rattle.mx_trie.specs.Leaf.{IsTrieKind, needs_spill}
use Rattle.mx_trie.specs.Walk.{Frames, most_regions, most_pages, most_lines}
use Rattle.mx_trie.specs.Owned.{page_spills, domain_mids, domain_leaves, domain_spills}
use Rattle.mx_trie.specs.Shown.{IsPage, IsDomain}
use Rattle.mx_trie.specs.Laying.{spill_lines}
use Rattle.mx_trie.specs.Built.{line_crowd, page_crowd, region_crowd, region_broken}
use Rattle.mx_trie.proofs.EntryLaws.{some-named}
use Rattle.mx_trie.proofs.Stored.{line-named}
use Rattle.mx_trie.proofs.EvenTables.{even-of}
use Rattle.mx_trie.proofs.RegionPages.{sum_below-none}
use Rattle.mx_trie.proofs.BuiltBlocks.{even-crowd, even-broken, even-crowds}

-- a count is a sum, and a sum over blocks is the sum of the blocks' sums
pub count-sum : (n : ℕ) (p : ℕ → Bool) → count_below n p ≡ sum_below n (λ i. bit (p i))
unfolding count_below sum_below
count-sum zero p = refl
count-sum (suc n) p = omega (arith, count-sum n p)

sum-plus : (a k : ℕ) (f : ℕ → ℕ) → sum_below (a + k) f ≡ sum_below a f + sum_below k (λ i. f (a + i))
unfolding sum_below
sum-plus a zero f = grind arith
sum-plus a (suc k) f = let e : a + suc k ≡ suc (a + k) = omega arith in rw e (omega (arith, sum-plus a k f))

pub sum-blocks : (n size : ℕ) (f : ℕ → ℕ) →
    sum_below (n * size) f ≡ sum_below n (λ b. sum_below size (λ k. f (b * size + k)))
unfolding sum_below
sum-blocks zero size f = grind arith
sum-blocks (suc n) size f =
    let e : suc n * size ≡ n * size + size = omega arith in
    rw e (omega (arith, sum-plus (n * size) size f, sum-blocks n size f))

-- one number more
pub sum-next : (n count byte : ℕ) (f : ℕ → ℕ) → count ≡ sum_below n f → byte ≡ f n → count + byte ≡ sum_below (n + 1) f
sum-next n count byte f is here = omega (arith, is, here, sum_below-more n f)

pub sum-ended : (n end count : ℕ) (f : ℕ → ℕ) → count ≡ sum_below n f → n ≤ end → end ≤ n → count ≡ sum_below end f
sum-ended n end count f is within last = is ∙ ap (λ k. sum_below k f) (omega arith)

-- the blocks that take in RAM are all that may be broken
pub blocks-broken : (size : ℕ) (m : List Perm) (n : ℕ) → 0 < size → length m ≤ n * size →
    sum_below n (λ b. bit (is_broken size m b)) ≡ broken_blocks size m
blocks-broken size m n some within =
    sym (count-sum n (is_broken size m)) ∙ sym (broken_blocks-count size m n some within)

-- what a map needs, page by page, and region by region
module _ (kind : Kind) (m : List Perm) where
  pub lines-crowded : sum_below most_pages (page_crowd kind m) ≡ spill_lines kind m
  lines-crowded =
      sym (sum-blocks most_pages 64 (line_crowd kind m)) ∙ sym (count-sum most_lines (λ z. needs_spill kind (line_at m (z * 16))))

  pub pages-crowded : (pages : ℕ) → length m ≤ pages * page_words → pages ≤ most_pages →
      sum_below pages (page_crowd kind m) ≡ spill_lines kind m
  pages-crowded pages within few = grind (
    arith,
    sum-plus pages (most_pages - pages) (page_crowd kind m),
    lines-crowded,
    sum_below-none (most_pages - pages) (λ i. page_crowd kind m (pages + i)) (λ i below.
        even-crowd kind m (pages + i) (search (arith, get_or_past))),
  )

  pub pages-broken : length m ≤ most_words → sum_below most_regions (region_broken m) ≡ broken_blocks page_words m
  pages-broken few =
      sym (sum-blocks most_regions 1024 (λ y. bit (is_broken page_words m y)))
      ∙ blocks-broken page_words m most_pages (omega arith) (omega arith)

  pub regions-crowded : sum_below most_regions (region_crowd kind m) ≡ spill_lines kind m
  regions-crowded = sym (sum-blocks most_regions 1024 (page_crowd kind m)) ∙ lines-crowded

by-pointer : (b : Bool) (x y : ℕ) → (b ≡ true → x ≡ y) → (b ≡ false → y ≡ 0) → (if b then x else 0) ≡ y
by-pointer x x1 y same none = grind arith

-- what tables have that stand for it
module _ (kind : Kind) (k : IsTrieKind kind) (upper leaf spill : Frames) (m : List Perm) where
  page-spills : (y e : ℕ) → IsPage kind leaf spill m y e → page_spills kind leaf e ≡ page_crowd kind m y
  page-spills y e page =
      search (arith, by-pointer, count-sum, sum_below_agree, some-named, line-named, page.lines, even-crowd, even-of)

  module _ (few : length m ≤ most_words) (root : ℕ) (domain : IsDomain kind upper leaf spill m root) where
    pub mids-shown : domain_mids upper root ≡ broken_blocks region_words m
    mids-shown =
        count-sum most_regions _ ∙ sum_below_agree most_regions _ _ (λ x below. ap bit (domain x below).broken)
        ∙ blocks-broken region_words m most_regions (omega arith) (omega arith)

    pub leaves-shown : domain_leaves upper root ≡ broken_blocks page_words m
    leaves-shown = sum_below_agree most_regions _ _ (λ x below.
        by-pointer _ _ _ (λ p. count-sum 1024 _ ∙ sum_below_agree 1024 _ _ (λ i inside. ap bit ((domain x below).pages p i inside).broken))
        (λ p. even-broken kind m x (sym (domain x below).broken ∙ p))) ∙ pages-broken kind m few

    pub spills-shown : domain_spills kind upper leaf root ≡ spill_lines kind m
    spills-shown = sum_below_agree most_regions _ _ (λ x below. by-pointer _ _ _
        (λ p. sum_below_agree 1024 _ _ (λ i inside. page-spills _ _ ((domain x below).pages p i inside))) (λ p.
        even-crowds kind m x (sym (domain x below).broken ∙ p))) ∙ regions-crowded kind m
