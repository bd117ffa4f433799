use Rattle.std.proofs.Common.{arith}
use Rattle.mx_trie.proofs.PageMaking.{making-more}
use Rattle.mx_trie.proofs.page.make_page.Goals as goal

pub loop-line-preserved : goal.loop-line-preserved
loop-line-preserved g c =
    making-more g.L.LeafForm.kind c.args.words c.args.leaf.now c.loop-line.leaf c.set.new.self c.args.outer c.args.page c.args.entry _
    c.loop-line.line c.line_of_vector-new.result c.loop-line.invariant
    (search arith)
    c.line_of_vector-new.ensures.none (λ m spill long o even is. c.line_of_vector-new.ensures.line m spill long o even is)
