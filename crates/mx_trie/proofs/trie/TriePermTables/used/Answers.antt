use Rattle.std.proofs.Common.{arith}
use Rattle.mx_trie.proofs.StandingNeeds.{frames-counted}
use Rattle.mx_trie.proofs.trie.TriePermTables.used.Goals as goal

pub returns : goal.returns
returns g c = search (arith, frames-counted, g.met.L.LeafForm.trie)
