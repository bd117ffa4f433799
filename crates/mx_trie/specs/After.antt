-- What is counted to tell a need after a change without making it.
use Rattle.std.specs.Prelude.{◌≡◌, ℕ, ◌+◌, ◌-◌, ◌*◌, ◌/◌, ◌≤◌, Bool, true, nat_lt, if◌then◌else◌, min, max, List}
use Rattle.mx_words.specs.declared.perm.Perm.{Perm}
use Rattle.mx_words.specs.declared.tables.Kind.{Kind}
use Rattle.mx_words.specs.declared.tables.Need.{Need}
use Rattle.mx_words.specs.Changes.{changed_map}
use Rattle.mx_words.specs.Counting.{count_below, sum_below}
use Rattle.mx_words.specs.Runs.{broken_blocks, page_words, region_words}
use Rattle.mx_words.specs.Reach.{line_at}
use Rattle.mx_words.specs.Blocks.{is_broken}
use Rattle.mx_table.specs.declared.change.Change.{Change}
use Rattle.mx_table.specs.Change.{given}
use Rattle.mx_pool.specs.Frames.{IsTaken}
use Rattle.mx_trie.specs.declared.laying.Laying.{Laying}
use Rattle.mx_trie.specs.Walk.{Frames, target, root_word, has_mid}
use Rattle.mx_trie.specs.Read.{read_map}
use Rattle.mx_trie.specs.Leaf.{needs_spill}
use Rattle.mx_trie.specs.Laying.{spill_lines}

-- how many of the numbers from..to - 1 pass a test, and of those that lie among `count` numbers from `first` on
abbrev pub count_from : ℕ → ℕ → (ℕ → Bool) → ℕ
count_from from to test = count_below (to - from) (λ i. test (from + i))

abbrev pub count_within : ℕ → ℕ → ℕ → ℕ → (ℕ → Bool) → ℕ
count_within from to first count test = count_from (max from first) (min to (first + count)) test

-- the tables on the way to page y's entry are taken
pub record IsPathTaken (upper : Frames) (root y : ℕ) : Type 0 where
  pub root_taken : IsTaken upper root
  pub mid_taken : has_mid upper root (y / 1024) ≡ true → IsTaken upper (target (root_word upper root (y / 1024)))

-- a need of which the parts can be summed
pub record IsNeedSmall (need : Need) : Type 0 where
  pub upper : need.upper ≤ 67108864
  pub leaf : need.leaf ≤ 67108864
  pub spill : need.spill ≤ 67108864

-- the map of the domain of a laying
abbrev pub map_in : Kind → Frames → Frames → Frames → ℕ → Laying → List Perm
map_in kind upper leaf spill root lay = read_map kind upper leaf spill lay.words root

-- the need of the maps of n domains
pub record IsNeedOf (kind : Kind) (n : ℕ) (maps : ℕ → List Perm) (need : Need) : Type 0 where
  pub upper : need.upper ≡ n + sum_below n (λ d. broken_blocks region_words (maps d))
  pub leaf : need.leaf ≡ sum_below n (λ d. broken_blocks page_words (maps d))
  pub spill : need.spill ≡ sum_below n (λ d. spill_lines kind (maps d))

-- what the blocks that meet a range need by a map
pub record IsRangeNeed (kind : Kind) (lay : Laying) (m : List Perm) (need : Need) : Type 0 where
  pub upper : need.upper ≡
      count_from (lay.first / region_words) ((lay.end - 1) / region_words + 1) (is_broken region_words m)
  pub leaf : need.leaf ≡
      count_from (lay.first / page_words) ((lay.end - 1) / page_words + 1) (is_broken page_words m)
  pub spill : need.spill ≡
      count_from (lay.first / 16) ((lay.end - 1) / 16 + 1) (λ z. needs_spill kind (line_at m (z * 16)))

-- a need with a part for a map m
pub record IsNeedWith (kind : Kind) (m : List Perm) (need : Need) : Type 0 where
  pub upper : broken_blocks region_words m ≤ need.upper
  pub leaf : broken_blocks page_words m ≤ need.leaf
  pub spill : spill_lines kind m ≤ need.spill

-- a need with a part for a map n in place of that for m
pub record IsNeedMoved (kind : Kind) (m n : List Perm) (before after : Need) : Type 0 where
  pub upper : after.upper + broken_blocks region_words m ≡ before.upper + broken_blocks region_words n
  pub leaf : after.leaf + broken_blocks page_words m ≡ before.leaf + broken_blocks page_words n
  pub spill : after.spill + spill_lines kind m ≡ before.spill + spill_lines kind n

-- the maps after a change of all domains, and of the domains before `row` alone
abbrev pub maps_after : Change → (ℕ → List Perm) → ℕ → List Perm
maps_after change old d = changed_map change.first change.count (given change (d + 1)) (old d)

abbrev pub maps_until : ℕ → Change → (ℕ → List Perm) → ℕ → List Perm
maps_until row change old d = if nat_lt d row then maps_after change old d else old d
