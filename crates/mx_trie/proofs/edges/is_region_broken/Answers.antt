use Rattle.std.proofs.Common.{not, ap, ◌∙◌}
use Rattle.std.proofs.Math.Bool.{not-not}
use Rattle.mx_words.specs.Blocks.{is_broken}
use Rattle.mx_words.specs.Runs.{region_words}
use Rattle.mx_trie.proofs.edges.is_region_broken.Goals as goal

pub returns : goal.returns
returns g c =
    ap not c.is_region_even.ensures ∙ not-not (is_broken region_words (g.V.View.map c.args.view.now) c.args.region)
