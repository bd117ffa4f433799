use Rattle.std.proofs.Common.{◌%◌, is_some}
use Rattle.mx_pool.specs.Frames.{word_at}
use Rattle.mx_trie.specs.Leaf.{spill_number}
use Rattle.mx_trie.proofs.Counted.{IsCountedTo}
use Rattle.mx_trie.proofs.after.lines_spilled.Given as goal

abbrev pub invariant-loop-line : goal.invariant-loop-line
invariant-loop-line g l =
    IsCountedTo l.from l.line l.to l.count (λ z. is_some (spill_number g.L.LeafForm.kind (word_at l.leaf l.frame (z % 64))))
