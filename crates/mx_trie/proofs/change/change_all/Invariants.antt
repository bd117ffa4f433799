use Rattle.std.proofs.Common.{◌≡◌, ℕ, ◌+◌, ◌*◌, ◌<◌, ◌≤◌, length}
use Rattle.mx_pool.specs.Frames.{free_in}
use Rattle.mx_trie.specs.Standing.{map_at, IsTables}
use Rattle.mx_trie.specs.After.{maps_until}
use Rattle.mx_trie.proofs.change.change_all.Given as goal

-- the maps of the domains so far are changed, and at most two frames of each sort were taken for each
abbrev pub invariant-loop-row : goal.invariant-loop-row
invariant-loop-row g l =
    record {
      tables : IsTables g.L.LeafForm.kind l.words l.upper l.leaf l.spill l.roots;
      maps : (d : ℕ) → d < length l.roots →
          map_at g.L.LeafForm.kind l.words l.upper l.leaf l.spill l.roots d
          ≡ maps_until l.row l.change (map_at g.L.LeafForm.kind l.words l.initial.upper l.initial.leaf l.initial.spill l.roots) d;
      upper_free : free_in l.initial.upper ≤ free_in l.upper + 2 * l.row;
      leaf_free : free_in l.initial.leaf ≤ free_in l.leaf + 2 * l.row;
      spill_free : free_in l.initial.spill ≤ free_in l.spill + 2 * l.row;
      upper_total : length l.upper ≡ length l.initial.upper;
      leaf_total : length l.leaf ≡ length l.initial.leaf;
      spill_total : length l.spill ≡ length l.initial.spill;
    }
