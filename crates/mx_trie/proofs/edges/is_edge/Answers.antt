use Rattle.std.proofs.Common.{sym, ◌∙◌, arith}
use denote.Enum.Bare.{differs_true}
use Rattle.mx_words.specs.contracts.perm.Perm.{the_type}
use Rattle.mx_trie.proofs.EdgeLaws.{edge_page}
use Rattle.mx_trie.proofs.edges.is_edge.Goals as goal

pub returns : goal.returns
returns g c told =
    edge_page _ _ _ _ (omega arith) c.around-before.ensures c.around-here.ensures (differs_true the_type _ _ (sym c.ne.ensures ∙ told))
