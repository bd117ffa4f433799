-- The tables of all rows, built one after the other.
use Rattle.std.proofs.Common.{◌≡◌, ℕ, ◌+◌, ◌<◌, ◌≤◌, List, [], ◌∷◌, ◌++◌, length, refl, ap, ◌∙◌, arith, length-append}
use Rattle.std.proofs.Common.{map as list_map}
use Rattle.std.proofs.lemmas.List.{get_or_append_left, get_or_push}
use Rattle.mx_words.specs.declared.perm.Perm.{Perm}
use Rattle.mx_words.specs.declared.perm.Span.{Span}
use Rattle.mx_words.specs.declared.tables.Kind.{Kind}
use Rattle.mx_words.specs.declared.tables.Need.{Need}
use Rattle.mx_words.specs.Blocks.{is_broken}
use Rattle.mx_words.specs.Counting.{bit, sum_below}
use Rattle.mx_words.specs.Runs.{page_words, region_words, broken_blocks}
use Rattle.mx_words.proofs.CountingLaws.{sum_below-zero, sum_below-more, sum_below_agree}
use Rattle.mx_words.proofs.OverlayLaws.{length-map_of}
use Rattle.mx_table.specs.Tables.{most_words, granted, row_map}
use Rattle.mx_pool.specs.Frames.{free_in}
use Rattle.mx_trie.specs.Leaf.{IsTrieKind}
use Rattle.mx_trie.specs.Walk.{Frames, most_regions}
use Rattle.mx_trie.specs.Heap.{heap, IsFamily}
use Rattle.mx_trie.specs.Owned.{DomainOwns}
use Rattle.mx_trie.specs.Laying.{spill_lines}
use Rattle.mx_trie.specs.After.{IsNeedOf}
use Rattle.mx_trie.specs.Standing.{root_at}
use Rattle.mx_trie.specs.Built.{region_broken, region_crowd, AreTaken, pools, RegionsOwning, RegionStands, DomainsOwning, DomainStands, Own}
use Rattle.mx_trie.specs.Built.{AreBuilt, AreRegionsBuilt, IsRoomFor, AreDomainsBuilt}
use Rattle.mx_trie.proofs.BuiltTables.{built-more, table-built}
use Rattle.mx_trie.proofs.BuiltBlocks.{sum-within}
use Rattle.mx_trie.proofs.DomainFrames.{domain-owns-same, domain-table-kept, domain-kept}
use Rattle.mx_trie.proofs.ShownCounts.{blocks-broken, pages-broken, regions-crowded, mids-shown, leaves-shown, spills-shown}
use Rattle.mx_trie.proofs.NeedLaws.{sum_below-each}
use Rattle.mx_trie.proofs.MapsRead.{read_map-is}

pub length-row : (words : ℕ) (row : List Span) → length (row_map words row) ≡ words
length-row words row = length-map_of (list_map granted row) words

-- no maps need nothing
pub need-none : (kind : Kind) (maps : ℕ → List Perm) → IsNeedOf kind 0 maps (record { upper = 0; leaf = 0; spill = 0 })
need-none kind maps = search (arith, sum_below-zero)

-- the need of one map more
pub need-more : (kind : Kind) (n : ℕ) (maps : ℕ → List Perm) (all one : Need) → IsNeedOf kind n maps all →
    one.upper ≡ 1 + broken_blocks region_words (maps n) → one.leaf ≡ broken_blocks page_words
    (maps n) → one.spill ≡ spill_lines kind (maps n) →
    IsNeedOf kind (n + 1) maps (record { upper = all.upper + one.upper; leaf = all.leaf + one.leaf; spill = all.spill + one.spill })
need-more kind n maps all one so upper leaf spill = search (arith, sum_below-more)

-- the first n rows have their tables
pub record AreRowsBuilt (kind : Kind) (maps : ℕ → List Perm) (upper leaf spill upper' leaf' spill' : Frames) (roots : List ℕ) (n : ℕ) : Type
    0 where
  pub built : AreBuilt (DomainsOwning kind) (DomainStands kind maps) (pools upper leaf spill) (pools upper' leaf' spill') (λ a g. ⊥) (λ d.
      d) n (root_at roots)
  pub upper_taken : AreTaken upper upper' (sum_below n (λ d. 1 + broken_blocks region_words (maps d)))
  pub leaf_taken : AreTaken leaf leaf' (sum_below n (λ d. broken_blocks page_words (maps d)))
  pub spill_taken : AreTaken spill spill' (sum_below n (λ d. spill_lines kind (maps d)))
  pub count : length roots ≡ n

module _ (kind : Kind) (k : IsTrieKind kind) (maps : ℕ → List Perm) (upper leaf spill : Frames) where
  pub rows-none : (roots : List ℕ) → roots ≡ [] → AreRowsBuilt kind maps upper leaf spill upper leaf spill roots 0
  rows-none roots none = search (arith, sum_below-zero)

  module _ (upper' leaf' spill' : Frames) (roots : List ℕ) (n : ℕ)
      (rows : AreRowsBuilt kind maps upper leaf spill upper' leaf' spill' roots n)
      (m : List Perm) (is : m ≡ maps n) (few : length m ≤ most_words) where
    -- what the next row needs is free
    module _ (most : ℕ) (below : n < most) (room : IsRoomFor kind most maps upper leaf spill) where
      pub upper-left : 1 + sum_below most_regions (λ x. bit (is_broken region_words m x)) ≤ free_in upper'
      upper-left = omega (
        arith,
        blocks-broken region_words m most_regions (omega arith) (omega arith) ∙ ap (broken_blocks region_words) is,
        sum_below-each most 1 (λ d. broken_blocks region_words (maps d)),
        sum-within n most (λ d. 1 + broken_blocks region_words (maps d)) below,
        room.told.upper,
      )

      pub leaf-left : sum_below most_regions (region_broken m) ≤ free_in leaf'
      leaf-left =
          omega (
            arith,
            pages-broken kind m few ∙ ap (broken_blocks page_words) is,
            sum-within n most (λ d.
                broken_blocks page_words (maps d)) below,
            room.told.leaf,
          )

      pub spill-left : sum_below most_regions (region_crowd kind m) ≤ free_in spill'
      spill-left =
          omega (
            arith,
            regions-crowded kind m ∙ ap (spill_lines kind) is,
            sum-within n most (λ d. spill_lines kind (maps d))
                below,
            room.told.spill,
          )

    module _ (upper'' leaf'' spill'' : Frames) (root : ℕ)
        (domain : AreRegionsBuilt kind upper' leaf' spill' upper'' leaf'' spill'' m root most_regions) where
      pub rows-more : (roots' : List ℕ) → roots' ≡ roots ++ root ∷ [] →
          AreRowsBuilt kind maps upper leaf spill upper'' leaf'' spill'' roots' (n + 1)
      rows-more roots' pushed =
          let one = table-built (RegionsOwning kind) (DomainsOwning kind) (RegionStands kind m) (DomainStands kind maps) _ _ (Own 0 root) _
          most_regions _ n root domain.built
          (λ a g o. o) (
            record {
              node = search (arith, domain.built.self, domain.built.other);
              tables = λ x b.
                  (domain.built.stand x b).0;
            },
            rw (← is) (λ x b. (domain.built.stand x b).1),
          ) in
          search (
            arith,
            sum_below-more,
            length-append,
            pushed,
            blocks-broken region_words m most_regions (omega arith) (omega arith) ∙ ap (broken_blocks region_words) is,
            pages-broken kind m few ∙ ap (broken_blocks page_words) is,
            regions-crowded kind m ∙ ap (spill_lines kind) is,
            built-more _ _
                (λ s s' d e t kept. (
                  domain-owns-same kind _ _ _ _ _ _ e
                      kept,
                  (domain-table-kept kind _ _ _ _ _ _ e kept t.0, domain-kept kind _ _ _ _ _ _ e kept k _ t.1),
                )) _ _ _
                (pools upper'' leaf'' spill'') _ _ n _ (root_at roots') root rows.built one (λ a g not. refl) (λ a g mine. absurd mine)
                (λ d below. rw pushed (get_or_append_left roots (root ∷ []) 0 d (omega (arith, rows.count))))
                (rw pushed (get_or_push roots root 0 n rows.count)),
          )

-- all rows have their tables
module _ (kind : Kind) (k : IsTrieKind kind) (words : ℕ) (few : words ≤ most_words) (maps : ℕ → List Perm)
    (long : (d : ℕ) → length (maps d) ≡ words) (upper leaf spill upper' leaf' spill' : Frames)
    (roots : List ℕ) (n : ℕ) (room : IsRoomFor kind n maps upper leaf spill)
    (rows : AreRowsBuilt kind maps upper leaf spill upper' leaf' spill' roots n) where
  pub rows-built : AreDomainsBuilt kind words n maps upper leaf spill upper' leaf' spill' roots
  rows-built =
      let family : IsFamily (heap upper' leaf' spill') (length roots) (λ d. DomainOwns kind upper' leaf' (root_at roots d)) =
      rw rows.count rows.built.parts in
      search (
        arith,
        rows.count,
        sum_below-each n 1 (λ d. broken_blocks region_words (maps d)),
        rows.built.stand,
        λ (d : ℕ) (below : d < n). read_map-is kind k upper' leaf' spill' (maps d) (omega (arith, long d)) (root_at roots d) words
            (rows.built.stand d below).1 (long d),
        sum_below_agree n _ _ (λ d below. mids-shown kind k upper' leaf' spill' (maps d) (omega (arith, long d)) (root_at roots d)
            (rows.built.stand d below).1),
        sum_below_agree n _ _ (λ d below. leaves-shown kind k upper' leaf' spill' (maps d) (omega (arith, long d)) (root_at roots d)
            (rows.built.stand d below).1),
        sum_below_agree n _ _ (λ d below. spills-shown kind k upper' leaf' spill' (maps d) (omega (arith, long d)) (root_at roots d)
            (rows.built.stand d below).1),
      )
