-- How many blocks of a map are broken after a permission is laid over a range, told by those that meet the range.
use Rattle.std.proofs.Common.{◌≡◌, ℕ, ◌+◌, ◌-◌, ◌*◌, ◌/◌, ◌<◌, ◌≤◌, ◌⊎◌, List, [], length, ap, ◌∙◌, arith}
use Rattle.mx_words.specs.declared.perm.Perm.{Perm}
use Rattle.mx_words.specs.declared.tables.Kind.{Kind}
use Rattle.mx_words.specs.declared.tables.Need.{Need}
use Rattle.mx_words.specs.Rights.{perm_at}
use Rattle.mx_words.specs.Runs.{broken_blocks, page_words, region_words}
use Rattle.mx_words.specs.Reach.{line_at}
use Rattle.mx_words.specs.Blocks.{is_broken}
use Rattle.mx_words.proofs.CountingLaws.{count_below_agree, count_below_part}
use Rattle.mx_words.proofs.BlockLaws.{broken_blocks-count, is_broken-same}
use Rattle.mx_words.proofs.BrokenLaws.{block-below, block-above}
use Rattle.mx_table.proofs.ChangeLaws.{laid_already}
use Rattle.mx_trie.specs.declared.laying.Laying.{Laying}
use Rattle.mx_trie.specs.Leaf.{needs_spill}
use Rattle.mx_trie.specs.Walk.{Frames, most_regions, most_pages, most_lines, has_mid, has_leaf}
use Rattle.mx_trie.specs.Shown.{IsDomain}
use Rattle.mx_trie.specs.Standing.{IsRead}
use Rattle.mx_trie.specs.Shape.{length-read_map}
use Rattle.mx_trie.specs.Laying.{laid_by, spill_lines, IsLaid}
use Rattle.mx_trie.specs.After.{count_from, IsRangeNeed, IsNeedMoved, map_in}
use Rattle.mx_trie.proofs.DomainPages.{leaf-broken}
use Rattle.mx_trie.proofs.LeafSpans.{length-line, line-at}
use Rattle.mx_trie.proofs.LineCuts.{line-is}
use Rattle.mx_trie.proofs.RangeLaws.{with_range-below, with_range-in, with_range-behind, length-with_range}

module _ (m : List Perm) (lay : Laying) (long : length m ≡ lay.words) where
  pub is-laid : IsLaid (laid_by lay m) lay
  is-laid = search (arith, length-with_range, lay.first, lay.end, lay.perm, with_range-in)

  -- a block outside of the range has the words that it had
  outside : (size b k : ℕ) → 0 < size → k < size →
      (b < lay.first / size) ⊎ (lay.first / size + ((lay.end - 1) / size + 1 - lay.first / size) ≤ b) →
      perm_at m (b * size + k) ≡ perm_at (laid_by lay m) (b * size + k)
  outside size b k some below apart =
      search (arith, block-below, lay.first, with_range-below, lay.end, lay.perm, block-above, with_range-behind)

  blocks-changed : (size n : ℕ) → 0 < size → length m ≤ n * size → lay.first / size ≤ (lay.end - 1) / size + 1 →
      (lay.end - 1) / size + 1 ≤ n →
      broken_blocks size (laid_by lay m) + count_from (lay.first / size) ((lay.end - 1) / size + 1) (is_broken size m)
      ≡ broken_blocks size m + count_from (lay.first / size) ((lay.end - 1) / size + 1) (is_broken size (laid_by lay m))
  blocks-changed size n some within order inside =
      rw (
        broken_blocks-count size m n some within,
        broken_blocks-count size (laid_by lay m) n some
            (omega (arith, length-with_range lay.first lay.end lay.perm m)),
      )
      (count_below_part n _ _ _ _ (omega arith) (search (arith, is_broken-same, outside, length-with_range)))

  lines-changed : (kind : Kind) → spill_lines kind (laid_by lay m) + count_from (lay.first / 16)
      ((lay.end - 1) / 16 + 1) (λ z. needs_spill kind (line_at m (z * 16)))
      ≡ spill_lines kind m + count_from (lay.first / 16) ((lay.end - 1) / 16 + 1)
      (λ z. needs_spill kind (line_at (laid_by lay m) (z * 16)))
  lines-changed kind =
      count_below_part most_lines _ _ _ _ (omega arith) (λ z below apart.
      ap (needs_spill kind) (search (arith, line-is, length-line, outside, line-at)))

-- the tables that a domain has in a range are those that its map needs there
pub range-taken : (kind : Kind) (upper leaf spill : Frames) (root : ℕ) (lay : Laying) (m : List Perm) (need : Need) →
    IsDomain kind upper leaf spill m root →
    need.upper ≡ count_from (lay.first / region_words) ((lay.end - 1) / region_words + 1) (has_mid upper root) →
    need.leaf ≡ count_from (lay.first / page_words) ((lay.end - 1) / page_words + 1) (has_leaf upper root) →
    need.spill ≡ count_from (lay.first / 16) ((lay.end - 1) / 16 + 1) (λ z. needs_spill kind (line_at m (z * 16))) →
    IsRangeNeed kind lay m need
range-taken kind upper leaf spill root lay m need shown regions pages lines =
    record {
      upper = search (arith, count_below_agree, shown);
      leaf = pages
          ∙ count_below_agree _ _ _ (λ i below. leaf-broken kind upper leaf spill root _ (omega arith) m shown);
      spill = lines;
    }

-- nothing changes where the range has the permission already
pub range-already : (kind : Kind) (m n : List Perm) (lay : Laying) (need : Need) → n ≡ m →
    ((k : ℕ) → lay.first ≤ k → k < lay.end → perm_at n k ≡ lay.perm) → IsNeedMoved kind m (laid_by lay m) need need
range-already kind m n lay need is had = search (arith, laid_already)

-- what is needed after the range is laid, by what the blocks that meet it needed and need then
pub range-moved : (kind : Kind) (upper leaf spill : Frames) (root : ℕ) (lay : Laying) (o n : List Perm)
    (before after : Need) → IsRead kind lay.words upper leaf spill root →
    o ≡ map_in kind upper leaf spill root lay → n ≡ laid_by lay o →
    ((spill' : Frames) (m : List Perm) → IsDomain kind upper leaf spill' m root → IsRangeNeed kind lay m before) →
    IsRangeNeed kind lay n after →
    IsNeedMoved kind (map_in kind upper leaf spill root lay)
    (laid_by lay (map_in kind upper leaf spill root lay)) before after
range-moved kind upper leaf spill root lay o n before after read was is old new =
    let m = map_in kind upper leaf spill root lay in
    let long = length-read_map kind upper leaf spill lay.words [] root in
    let had = old spill m read.shown in let now = rw (is, was) at new in
    omega (
      arith,
      blocks-changed m lay long region_words most_regions,
      blocks-changed m lay long page_words most_pages,
      lines-changed m lay
          long kind,
    )
