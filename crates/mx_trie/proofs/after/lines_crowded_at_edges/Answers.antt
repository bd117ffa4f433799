use Rattle.std.proofs.Common.{◌*◌, ◌/◌, ◌-◌, arith}
use Rattle.mx_words.specs.Reach.{line_at}
use Rattle.mx_trie.specs.Leaf.{needs_spill}
use Rattle.mx_trie.proofs.Counted.{edges-one, edges-two}
use Rattle.mx_trie.proofs.EdgeLaws.{inner-needs}
use Rattle.mx_trie.proofs.after.lines_crowded_at_edges.Goals as goal

pub returns-then-first-last-clause-count : goal.returns-then-first-last-clause-count
returns-then-first-last-clause-count g c = search (arith, edges-one, c.if-first-last.true, c.from-at_first.ensures)

pub returns-clause-count : goal.returns-clause-count
returns-clause-count g c =
    edges-two (c.args.lay.now.first / 16) ((c.args.lay.now.end - 1) / 16) _ _ (λ z.
    needs_spill g.L.LeafForm.kind (line_at (g.V.View.map c.args.new.now) (z * 16))) _ _
    (omega arith)
    (λ i above below. inner-needs (g.V.View.map c.args.new.now) c.args.lay.now c.requires.laid i g.L.LeafForm.kind above below)
    c.from-at_first.ensures c.is_line_crowded.ensures c.from.ensures c.is_line_crowded-2.ensures
