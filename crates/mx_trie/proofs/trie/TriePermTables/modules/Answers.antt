use Rattle.std.proofs.Common.{sym, ◌∙◌}
use Rattle.mx_trie.specs.Shape.{length-read_maps}
use Rattle.mx_trie.proofs.trie.TriePermTables.modules.Goals as goal

pub returns : goal.returns
returns g c =
    c.count.ensures.value ∙ sym (length-read_maps g.L.LeafForm.kind c.args.self.now.upper c.args.self.now.leaf c.args.self.now.spill
    c.args.self.now.words c.args.self.now.roots)
