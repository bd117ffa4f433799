use Rattle.std.proofs.Common.{ℕ, ◌+◌, ◌*◌, ◌^◌, ◌<◌, ◌≤◌, List}
use Rattle.mx_words.specs.declared.perm.Perm.{Perm}
use Rattle.mx_words.specs.declared.tables.Kind.{Kind}
use Rattle.mx_words.specs.Blocks.{IsUniform}
use Rattle.mx_trie.specs.Walk.{Frames}
use Rattle.mx_trie.specs.Shown.{ArePages}
use Rattle.mx_trie.proofs.Vectors.{IsPartVector}
use Rattle.mx_trie.proofs.even.region_entry.Given as goal

-- the last eighths have one permission each, and it stands in the entry
abbrev pub invariant-loop-e : goal.invariant-loop-e
invariant-loop-e l =
    (l.e ≤ 8) × ((l.entry < 2 ^ (2 * l.e)) × ((kind : Kind) (leaf spill : Frames) (m : List Perm) (x : ℕ)
    → ArePages kind l.upper leaf spill m x l.frame →
    IsPartVector m (x * 1048576) 131072 l.e l.entry × ((j : ℕ) → 8 ≤ j + l.e → j < 8 → IsUniform m (x * 1048576 + j * 131072) 131072)))
