use Rattle.std.proofs.Common.{ℕ, ◌+◌, ◌*◌, ◌<◌, ◌≤◌, List, length}
use Rattle.mx_words.specs.declared.perm.Perm.{Perm}
use Rattle.mx_words.specs.Blocks.{IsUniform}
use Rattle.mx_table.specs.Tables.{most_words}
use Rattle.mx_trie.specs.Walk.{Frames}
use Rattle.mx_trie.specs.Shown.{AreLines}
use Rattle.mx_trie.proofs.Vectors.{IsPartVector}
use Rattle.mx_trie.proofs.even.page_entry.Given as goal

-- the last eighths have one permission each, and it stands in the entry
abbrev pub invariant-loop-e : goal.invariant-loop-e
invariant-loop-e g l =
    (spill : Frames) (m : List Perm) → length m ≤ most_words → AreLines g.L.LeafForm.kind l.leaf spill m l.page l.frame →
    IsPartVector m (l.page * 1024) 128 l.e l.entry × ((j : ℕ) → 8 ≤ j + l.e → j < 8 → IsUniform m (l.page * 1024 + j * 128) 128)
