use Rattle.std.proofs.Common.{◌+◌, ◌-◌, ◌/◌, ◌%◌, ◌∙◌, is_some}
use Rattle.mx_pool.specs.Frames.{word_at}
use Rattle.mx_trie.specs.Leaf.{spill_number}
use Rattle.mx_trie.proofs.Counted.{counted_all}
use Rattle.mx_trie.proofs.SpillCounts.{lines-needed}
use Rattle.mx_trie.proofs.after.lines_spilled.Goals as goal

pub returns-clause-count : goal.returns-clause-count
returns-clause-count g c spill m lines =
    counted_all c.max-from.result c.loop-line.line c.min-to.result c.loop-line.count (λ z.
    is_some (spill_number g.L.LeafForm.kind (word_at c.args.leaf.now c.args.frame (z % 64))))
    c.loop-line.invariant c.loop-line-test.false
    ∙ lines-needed g.L.LeafForm.kind g.met.L.LeafForm.trie c.args.leaf.now spill m c.args.page c.args.frame (c.args.lay.now.first / 16)
    ((c.args.lay.now.end - 1) / 16 + 1) c.max-from.result c.min-to.result
    lines c.max-from.ensures c.min-to.ensures
