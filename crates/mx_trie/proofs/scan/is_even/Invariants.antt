use Rattle.std.proofs.Common.{ℕ, ◌+◌, ◌*◌, ◌<◌}
use Rattle.mx_words.specs.Blocks.{IsUniform}
use Rattle.mx_trie.proofs.scan.is_even.Given as goal

-- the parts up to the next one have one permission each
abbrev pub invariant-loop-e : goal.invariant-loop-e
invariant-loop-e g l = (k : ℕ) → k < l.e → IsUniform (g.V.View.map l.view) (l.first + k * l.part) l.part
