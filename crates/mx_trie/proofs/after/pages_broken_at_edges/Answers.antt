use Rattle.std.proofs.Common.{◌/◌, ◌-◌, refl, arith}
use Rattle.mx_words.specs.Blocks.{is_broken}
use Rattle.mx_words.specs.Runs.{page_words}
use Rattle.mx_trie.proofs.Counted.{edges-one, edges-two}
use Rattle.mx_trie.proofs.EdgeLaws.{inner-whole}
use Rattle.mx_trie.proofs.after.pages_broken_at_edges.Goals as goal

pub returns-then-first-last-clause-count : goal.returns-then-first-last-clause-count
returns-then-first-last-clause-count g c =
    search (arith, edges-one, g.V.View.map, c.if-first-last.true, c.from-at_first.ensures)

pub returns-clause-count : goal.returns-clause-count
returns-clause-count g c =
    edges-two (c.args.lay.now.first / page_words) ((c.args.lay.now.end - 1) / page_words) _ _
    (is_broken page_words (g.V.View.map c.args.new.now)) _ _
    (let apart = c.if-first-last.false in omega arith)
    (λ i above below. inner-whole (g.V.View.map c.args.new.now) c.args.lay.now c.requires.laid i page_words 128 refl refl (omega arith)
    above below)
    c.from-at_first.ensures c.is_page_broken.ensures c.from.ensures c.is_page_broken-2.ensures
