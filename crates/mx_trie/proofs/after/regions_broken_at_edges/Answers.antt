use Rattle.std.proofs.Common.{◌/◌, ◌-◌, refl, arith}
use Rattle.mx_words.specs.Blocks.{is_broken}
use Rattle.mx_words.specs.Runs.{region_words}
use Rattle.mx_trie.proofs.Counted.{edges-one, edges-two}
use Rattle.mx_trie.proofs.EdgeLaws.{inner-whole}
use Rattle.mx_trie.proofs.after.regions_broken_at_edges.Goals as goal

pub returns-then-first-last-clause-count : goal.returns-then-first-last-clause-count
returns-then-first-last-clause-count g c =
    edges-one _ _ _ (is_broken region_words (g.V.View.map c.args.new.now)) _ c.if-first-last.true c.from-at_first.ensures
    c.is_region_broken.ensures

pub returns-clause-count : goal.returns-clause-count
returns-clause-count g c =
    edges-two (c.args.lay.now.first / region_words) ((c.args.lay.now.end - 1) / region_words) _ _
    (is_broken region_words (g.V.View.map c.args.new.now)) _ _
    (omega arith)
    (λ i above below. inner-whole (g.V.View.map c.args.new.now) c.args.lay.now c.requires.laid i region_words 131072 refl refl (omega arith)
    above below)
    c.from-at_first.ensures c.is_region_broken.ensures c.from.ensures c.is_region_broken-2.ensures
