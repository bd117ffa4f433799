-- What the tables of all domains always are.
use Rattle.std.specs.Prelude.{◌≡◌, ℕ, ◌+◌, ◌-◌, ◌*◌, ◌<◌, ◌≤◌, List, length, slice_index, IsTrue}
use Rattle.mx_words.specs.declared.perm.Perm.{Perm}
use Rattle.mx_words.specs.declared.tables.Kind.{Kind}
use Rattle.mx_words.specs.declared.tables.Need.{Need}
use Rattle.mx_words.specs.Counting.{sum_below}
use Rattle.mx_words.specs.Need.{fits}
use Rattle.mx_pool.specs.Frames.{free_in}
use Rattle.mx_table.specs.Tables.{most_modules, most_words, IsLimit}
use Rattle.mx_trie.specs.Walk.{Frames}
use Rattle.mx_trie.specs.Read.{read_map, read_maps}
use Rattle.mx_trie.specs.Owned.{IsForest, IsRootTable, domain_mids, domain_leaves, domain_spills}
use Rattle.mx_trie.specs.Shown.{IsDomain}

-- the frame of a domain's root table; domains count from 1, and from 0 for the second word
abbrev pub root_of : List ℕ → ℕ → ℕ
root_of roots d = slice_index roots (d - 1)

abbrev pub root_at : List ℕ → ℕ → ℕ
root_at roots d = slice_index roots d

-- domain d's map, as its tables are read; domains count from 0 here
abbrev pub map_at : Kind → ℕ → Frames → Frames → Frames → List ℕ → ℕ → List Perm
map_at kind words upper leaf spill roots d = read_map kind upper leaf spill words (root_at roots d)

-- the tables below a root table stand for the map that is read of them
pub record IsRead (kind : Kind) (words : ℕ) (upper leaf spill : Frames) (root : ℕ) : Type 0 where
  pub few_words : words ≤ most_words
  pub table : IsRootTable kind upper leaf spill root
  pub shown : IsDomain kind upper leaf spill (read_map kind upper leaf spill words root) root

-- the tables of all domains: each frame has one owner, each domain's tables stand for its map, and the frames
-- that are taken are those that the tables name
pub record IsTables (kind : Kind) (words : ℕ) (upper leaf spill : Frames) (roots : List ℕ) : Type 0 where
  pub few_words : words ≤ most_words
  pub forest : IsForest kind upper leaf spill roots
  pub shown : (d : ℕ) → d < length roots →
      IsDomain kind upper leaf spill (map_at kind words upper leaf spill roots d) (root_at roots d)
  pub upper_count : free_in upper + length roots
      + sum_below (length roots) (λ d. domain_mids upper (root_at roots d)) ≡ length upper
  pub leaf_count : free_in leaf + sum_below (length roots) (λ d. domain_leaves upper (root_at roots d))
      ≡ length leaf
  pub spill_count : free_in spill
      + sum_below (length roots) (λ d. domain_spills kind upper leaf (root_at roots d)) ≡ length spill

-- the tables stand for maps that fit the limit, and each pool has as many frames as the limit says, and two
-- more for each domain
pub record IsStanding (kind : Kind) (upper leaf spill : Frames) (roots : List ℕ) (words : ℕ) (limit : Need)
    : Type 0 where
  pub some_words : 1 ≤ words
  pub some_domains : 1 ≤ length roots
  pub few_domains : length roots ≤ most_modules
  pub limited : IsLimit limit
  pub tables : IsTables kind words upper leaf spill roots
  pub upper_total : length upper ≡ limit.upper + 2 * length roots
  pub leaf_total : length leaf ≡ limit.leaf + 2 * length roots
  pub spill_total : length spill ≡ limit.spill + 2 * length roots
  pub fit : IsTrue (fits kind limit (read_maps kind upper leaf spill words roots))
