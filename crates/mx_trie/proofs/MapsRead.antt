-- Tables that stand for a map are read as this map.
use Rattle.std.proofs.Common.{◌≡◌, ℕ, ◌+◌, ◌*◌, ◌/◌, ◌%◌, ◌<◌, ◌≤◌, List, length, arith}
use Rattle.std.proofs.lemmas.List.{get_or_default}
use Rattle.mx_words.specs.declared.perm.Perm.{Perm}
use Rattle.mx_words.specs.declared.tables.Kind.{Kind}
use Rattle.mx_words.specs.Rights.{perm_at}
use Rattle.mx_words.proofs.CountingLaws.{list_below_is}
use Rattle.mx_words.proofs.NumberLaws.{from_number-number}
use Rattle.mx_table.specs.Tables.{most_words}
use Rattle.mx_trie.specs.Leaf.{IsTrieKind}
use Rattle.mx_trie.specs.Walk.{Frames}
use Rattle.mx_trie.specs.Read.{leaf_perm, mid_perm, root_perm, read_map}
use Rattle.mx_trie.specs.Shown.{IsLine, IsPage, IsRegion, IsDomain}
use Rattle.mx_trie.proofs.LeafSpans.{line-at}
use Rattle.mx_trie.proofs.ReadLines.{read_line-is}
use Rattle.mx_trie.proofs.Stored.{line-stored}
use Rattle.mx_trie.proofs.VectorWords.{page-word, region-word}
use Rattle.mx_trie.proofs.WalkWords.{walk-region, walk-page, walk-line}

module _ (kind : Kind) (k : IsTrieKind kind) (upper leaf spill : Frames) (m : List Perm) (few : length m ≤ most_words)
  where
    -- the permission that is read of an entry is the map's
    module _ (i : ℕ) (below : i < most_words) where
      pub line-read : (e : ℕ) → IsLine kind spill m (i / 16) e → leaf_perm kind spill e i ≡ perm_at m i
      line-read e line = let at : i / 16 * 16 + i % 16 ≡ i = omega arith in
          cc (
            read_line-is kind k _ _ _ _ (i / 16 * 16) e _ (line-stored kind k spill m (i / 16) e few (omega arith) line),
            line-at m
                (i / 16) (i % 16) (omega arith),
            at,
          )

      page-read : (e : ℕ) → IsPage kind leaf spill m (i / 1024) e → mid_perm kind leaf spill e i ≡ perm_at m i
      page-read e page =
          search (
            arith,
            line-read,
            walk-line kind upper leaf spill m i below e,
            page-word kind upper leaf spill m (i / 1024)
                e,
            from_number-number,
          )

      region-read : (e : ℕ) → IsRegion kind upper leaf spill m (i / 1048576) e →
          root_perm kind upper leaf spill e i ≡ perm_at m i
      region-read e region =
          search (
            arith,
            page-read,
            walk-page kind upper leaf spill m i below e,
            region-word kind upper leaf spill m (i / 1048576)
                e,
            from_number-number,
          )

    module _ (root words : ℕ) (shown : IsDomain kind upper leaf spill m root) (long : length m ≡ words) where
      pub read_map-is : read_map kind upper leaf spill words root ≡ m
      unfolding read_map
      read_map-is = search (arith, list_below_is, get_or_default, region-read, walk-region)
