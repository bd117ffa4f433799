use Rattle.std.proofs.Common.{◌-◌, ◌/◌}
use Rattle.mx_words.specs.Blocks.{is_broken}
use Rattle.mx_words.specs.Runs.{page_words}
use Rattle.mx_trie.proofs.Counted.{one-counted}
use Rattle.mx_trie.proofs.after.need_at_edges.Goals as goal

pub regions_broken_at_edges-requires-clause-odd : goal.regions_broken_at_edges-requires-clause-odd
regions_broken_at_edges-requires-clause-odd g c odd =
    one-counted (c.args.lay.now.first / page_words) ((c.args.lay.now.end - 1) / page_words) c.pages_broken_at_edges-leaf.result
    (is_broken page_words (g.V.View.map c.args.new.now))
    (c.is_one_broken.ensures.one odd) c.pages_broken_at_edges-leaf.ensures.count (c.is_one_broken.ensures.some odd)
