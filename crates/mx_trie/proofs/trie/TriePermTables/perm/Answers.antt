use Rattle.std.proofs.Common.{arith}
use Rattle.mx_trie.proofs.StandingLaws.{span-perm}
use Rattle.mx_trie.proofs.trie.TriePermTables.perm.Goals as goal

pub returns : goal.returns
returns g c =
    search (arith, span-perm, g.L.LeafForm.kind, c.args.self.now.upper, c.args.self.now.leaf, c.args.self.now.spill, c.args.self.now.words)
