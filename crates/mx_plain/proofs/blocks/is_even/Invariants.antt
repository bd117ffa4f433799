use Rattle.std.proofs.Common.{ℕ, ◌+◌, ◌*◌, ◌<◌}
use Rattle.mx_words.specs.Blocks.{IsUniform}
use Rattle.mx_plain.proofs.blocks.is_even.Given as goal

abbrev pub invariant-loop-e : goal.invariant-loop-e
invariant-loop-e g l = (j : ℕ) → j < l.e → IsUniform (g.M.WordMap.list l.map) (l.first + j * l.part) l.part
