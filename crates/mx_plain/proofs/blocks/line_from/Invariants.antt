use Rattle.std.proofs.Common.{◌≡◌, ℕ, ◌+◌, ◌<◌, length}
use Rattle.mx_words.specs.Rights.{perm_at}
use Rattle.mx_plain.proofs.blocks.line_from.Given as goal

abbrev pub invariant-loop-i : goal.invariant-loop-i
invariant-loop-i g l = (length l.line ≡ 16) × ((k : ℕ) → k < l.i → perm_at l.line k ≡ perm_at (g.M.WordMap.list l.map) (l.first + k))
