use Rattle.std.proofs.Common.{◌≡◌, ℕ, ◌<◌, ◌≤◌}
use Rattle.mx_words.specs.Rights.{perm_at}
use Rattle.mx_plain.proofs.blocks.is_uniform.Given as goal

abbrev pub invariant-loop-word : goal.invariant-loop-word
invariant-loop-word g l = (k : ℕ) → l.first ≤ k → k < l.word → perm_at (g.M.WordMap.list l.map) k ≡ l.perm
