use Rattle.std.proofs.Common.{◌≡◌, ℕ, ◌+◌, ◌*◌, ◌<◌, ◌≤◌, List, length}
use Rattle.mx_words.specs.declared.perm.Perm.{Perm}
use Rattle.mx_words.specs.Rights.{perm_at}
use Rattle.mx_table.specs.Tables.{most_words}
use Rattle.mx_trie.specs.Walk.{Frames}
use Rattle.mx_trie.specs.Shown.{AreLines}
use Rattle.mx_trie.proofs.even.eighth_perm.Given as goal

-- the first lines have the permission
abbrev pub invariant-loop-k : goal.invariant-loop-k
invariant-loop-k g l =
    (1 ≤ l.k) × ((spill : Frames) (m : List Perm) → length m ≤ most_words → AreLines g.L.LeafForm.kind l.leaf spill m l.page l.frame →
    (j : ℕ) → j < l.k → (i : ℕ) → i < 16 → perm_at m ((l.page * 64 + 8 * l.part + j) * 16 + i) ≡ l.perm)
