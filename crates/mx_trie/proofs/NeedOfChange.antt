-- What all maps need after a change, counted on from what they need before it, one domain after the other.
use Rattle.std.proofs.Common.{◌≡◌, ◌≢◌, ℕ, zero, suc, ◌+◌, ◌*◌, ◌<◌, ◌≤◌, List, length, Option, Some, arith}
use Rattle.std.proofs.lemmas.Bool.{cases_lt}
use Rattle.mx_words.specs.declared.perm.Perm.{Perm}
use Rattle.mx_words.specs.declared.tables.Kind.{Kind}
use Rattle.mx_words.specs.declared.tables.Need.{Need}
use Rattle.mx_words.specs.Changes.{changed_map}
use Rattle.mx_words.specs.Counting.{sum_below}
use Rattle.mx_words.specs.Runs.{broken_blocks, page_words, region_words}
use Rattle.mx_words.proofs.CountingLaws.{cases_below, count_below-le, sum_below_agree, sum_below_at_most, sum_below_changed}
use Rattle.mx_words.proofs.BlockLaws.{broken_blocks-count}
use Rattle.mx_words.proofs.MapLaws.{length-changed_map}
use Rattle.mx_table.specs.declared.change.Change.{Change}
use Rattle.mx_table.specs.Change.{given}
use Rattle.mx_table.specs.Tables.{most_words}
use Rattle.mx_trie.specs.declared.laying.Laying.{Laying}
use Rattle.mx_trie.specs.Laying.{spill_lines, laid_by}
use Rattle.mx_trie.proofs.RegionPages.{sum_below-none}
use Rattle.mx_trie.proofs.NeedLaws.{sum_below-each}
use Rattle.mx_trie.specs.After.{IsNeedOf, IsNeedWith, IsNeedMoved, IsNeedSmall, maps_after, maps_until}

-- a map after a change that names its domain
pub laid-named : (first count : ℕ) (given : Option Perm) (m : List Perm) (lay : Laying) → lay.first ≡ first →
    lay.end ≡ first + count → given ≡ Some lay.perm → laid_by lay m ≡ changed_map first count given m
laid-named first count given m lay from to named = search arith

-- a summand, and the greatest sum
sum-part : (n k : ℕ) (f : ℕ → ℕ) → k < n → f k ≤ sum_below n f
unfolding sum_below
sum-part zero k f below = absurd (omega arith)
sum-part (suc n) k f below = grind (arith, cases_below, sum-part n k f)

sum-most : (n most : ℕ) (f : ℕ → ℕ) → ((i : ℕ) → i < n → f i ≤ most) → sum_below n f ≤ n * most
sum-most n most f few =
    search (arith, sum_below_at_most n f (λ i. most + 0), sum_below-each n most (λ i. 0), sum_below-none n (λ i. 0))

module _ (change : Change) (old : ℕ → List Perm) where
  pub until-new : (row d : ℕ) → d < row → maps_until row change old d ≡ maps_after change old d
  until-new row d below = grind arith

  pub until-old : (row d : ℕ) → row ≤ d → maps_until row change old d ≡ old d
  until-old row d from = grind arith

  until-next : (row d : ℕ) → d ≢ row → maps_until row change old d ≡ maps_until (row + 1) change old d
  until-next row d ne = search (arith, cases_lt, until-new, until-old)

  pub until-short : (most row d : ℕ) → length (old d) ≤ most → length (maps_until row change old d) ≤ most
  until-short most row d few =
      search (arith, cases_lt, until-new, length-changed_map, change.first, change.count, until-old)

module _ (kind : Kind) (n : ℕ) where
  pub need-agree : (maps maps' : ℕ → List Perm) (need : Need) → ((d : ℕ) → d < n → maps d ≡ maps' d) →
      IsNeedOf kind n maps need → IsNeedOf kind n maps' need
  need-agree maps maps' need same is = search (arith, sum_below_agree, same)

  -- one domain more
  pub need-next : (change : Change) (old : ℕ → List Perm) (row : ℕ) (need need' : Need) → row < n →
      IsNeedOf kind n (maps_until row change old) need →
      IsNeedMoved kind (old row) (maps_after change old row) need need' →
      IsNeedOf kind n (maps_until (row + 1) change old) need'
  need-next change old row need need' below is moved = omega (
    arith,
    changed (broken_blocks region_words),
    changed
        (broken_blocks page_words),
    changed (spill_lines kind),
  )
    where
      changed : (f : List Perm → ℕ) → sum_below n (λ d. f (maps_until (row + 1) change old d)) + f (old row)
          ≡ sum_below n (λ d. f (maps_until row change old d)) + f (maps_after change old row)
      changed f = search (
        arith,
        sum_below_changed n row (λ d. f (maps_until row change old d)) (λ d. f (maps_until (row + 1) change old d))
            below,
        until-old,
        until-new,
        until-next,
      )

  -- each map's need is a part, and the whole is small
  pub need-part : (maps : ℕ → List Perm) (d : ℕ) (need : Need) → d < n → IsNeedOf kind n maps need →
      IsNeedWith kind (maps d) need
  need-part maps d need below is =
      search (
        arith,
        sum-part n d (λ e. broken_blocks region_words (maps e)) below,
        sum-part n d (λ e. broken_blocks page_words (maps e))
            below,
        sum-part n d (λ e. spill_lines kind (maps e)) below,
      )

  pub need-small : (maps : ℕ → List Perm) (need : Need) → n ≤ 63 → ((d : ℕ) → d < n → length (maps d) ≤ most_words) →
      IsNeedOf kind n maps need → IsNeedSmall need
  need-small maps need few short is =
      let u = sum-most n 16 (λ d. broken_blocks region_words (maps d)) (λ d below.
      omega (arith, broken_blocks-count region_words (maps d) 16 (omega arith) (short d below), count_below-le 16)) in
      let l = sum-most n 16384 (λ d. broken_blocks page_words (maps d)) (λ d below.
      omega (arith, broken_blocks-count page_words (maps d) 16384 (omega arith) (short d below), count_below-le 16384)) in
      let s : sum_below n (λ d. spill_lines kind (maps d)) ≤ n * 1048576 = search (arith, sum-most, count_below-le) in
      search arith
