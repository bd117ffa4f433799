use Rattle.std.proofs.Common.{length}
use Rattle.mx_trie.specs.Standing.{map_at}
use Rattle.mx_trie.specs.After.{IsNeedOf, maps_until}
use Rattle.mx_trie.proofs.after.need_after.Given as goal

-- the need with the maps of the domains so far changed
abbrev pub invariant-loop-row : goal.invariant-loop-row
invariant-loop-row g l =
    IsNeedOf g.L.LeafForm.kind (length l.roots) (maps_until l.row l.change
    (map_at g.L.LeafForm.kind l.words l.upper l.leaf l.spill l.roots)) l.need
