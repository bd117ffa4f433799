-- Tables of rows whose maps fit the limit have room, and stand when they are built.
use Rattle.std.proofs.Common.{◌≡◌, ℕ, ◌+◌, ◌*◌, ◌≤◌, true, List, [], length, get_or, replicate, None, sym, ap, ◌∙◌, arith, IsTrue}
use Rattle.std.specs.Prelude.{map as list_map}
use Rattle.std.proofs.lemmas.List.{get_or-map, length-map, length-replicate}
use Rattle.std.proofs.lemmas.List.Folds.{sum_by-replicate}
use Rattle.mx_words.specs.declared.perm.Span.{Span}
use Rattle.mx_words.specs.declared.tables.Kind.{Kind}
use Rattle.mx_words.specs.declared.tables.Need.{Need}
use Rattle.mx_words.specs.Need.{need, within, fits}
use Rattle.mx_table.specs.Tables.{most_words, most_modules, row_map, IsLimit}
use Rattle.mx_table.proofs.WithinLaws.{within-parts}
use Rattle.mx_trie.specs.Leaf.{IsTrieKind}
use Rattle.mx_trie.specs.Walk.{Frames}
use Rattle.mx_trie.specs.Read.{read_maps}
use Rattle.mx_trie.specs.After.{IsNeedOf}
use Rattle.mx_trie.specs.Standing.{IsStanding}
use Rattle.mx_trie.specs.Built.{rows_map, IsRoomFor, AreDomainsBuilt}
use Rattle.mx_trie.proofs.BuiltRows.{length-row}
use Rattle.mx_trie.proofs.NeedLaws.{need-listed, need-same}
use Rattle.mx_trie.proofs.ListedMaps.{read-as}

module _ (kind : Kind) (k : IsTrieKind kind) (words : ℕ) (few : words ≤ most_words) (rows : List (List Span)) where
  told : IsNeedOf kind (length rows) (rows_map words rows) (need kind (list_map (row_map words) rows))
  told =
      need-listed kind k _ _ _ (length-map rows (row_map words)) (λ d below. get_or-map (row_map words) rows d [] [] below) (λ d below.
      omega (arith, few, length-row words (get_or rows d [])))

  -- what is told by the rows is the need of their maps
  pub rows-need : (n : Need) → IsNeedOf kind (length rows) (rows_map words rows) n →
      n ≡ need kind (list_map (row_map words) rows)
  rows-need n is = search (arith, need-same, told)

  pub rows-fit : (n limit : Need) → IsNeedOf kind (length rows) (rows_map words rows) n → within n limit ≡ true →
      IsTrue (fits kind limit (list_map (row_map words) rows))
  rows-fit n limit is inside = ap (λ m. within m limit) (sym (rows-need n is)) ∙ inside

  -- maps that fit the limit
  module _ (limit : Need) (fit : IsTrue (fits kind limit (list_map (row_map words) rows))) (upper leaf spill : Frames)
      (upper_is : upper ≡ replicate (limit.upper + 2 * length rows) None)
      (leaf_is : leaf ≡ replicate (limit.leaf + 2 * length rows) None)
      (spill_is : spill ≡ replicate (limit.spill + 2 * length rows) None) where
    pub rows-room : IsRoomFor kind (length rows) (rows_map words rows) upper leaf spill
    rows-room = search (arith, within-parts, told, sum_by-replicate, length-replicate, upper_is, leaf_is, spill_is)

    module _ (upper' leaf' spill' : Frames) (roots : List ℕ)
        (built : AreDomainsBuilt kind words (length rows) (rows_map words rows) upper leaf spill upper' leaf' spill' roots) where
      pub rows-read : read_maps kind upper' leaf' spill' words roots ≡ list_map (row_map words) rows
      rows-read = search (arith, read-as, length-map, built.read, get_or-map)

      pub rows-stand : 1 ≤ words → 1 ≤ length rows → length rows ≤ most_modules → IsLimit limit →
          IsStanding kind upper' leaf' spill' roots words limit
      rows-stand some_words some_rows few_rows limited =
          search (arith, length-replicate, upper_is, leaf_is, spill_is, rows-read)
