use Rattle.std.proofs.Common.{arith}
use Rattle.mx_table.specs.Tables.{map_of}
use Rattle.mx_trie.specs.Read.{read_maps}
use Rattle.mx_trie.specs.Shape.{length-map_of}
use Rattle.mx_trie.proofs.StandingLaws.{domain-from}
use Rattle.mx_trie.proofs.trie.TriePermTables.shown.Goals as goal

pub returns : goal.returns
returns g c =
    c.found_item.ensures
    (map_of (read_maps g.L.LeafForm.kind c.args.self.now.upper c.args.self.now.leaf c.args.self.now.spill c.args.self.now.words
    c.args.self.now.roots) c.args.domain)
    c.find_word.ensures
    (length-map_of g.L.LeafForm.kind c.args.self.now.upper c.args.self.now.leaf c.args.self.now.spill c.args.self.now.words
    c.args.self.now.roots c.args.domain c.requires.domain.first
    (domain-from g.L.LeafForm.kind c.args.self.now.upper c.args.self.now.leaf c.args.self.now.spill c.args.self.now.words
    c.args.self.now.roots c.args.domain c.requires.domain))

pub find_word-requires-clause-last : goal.find_word-requires-clause-last
find_word-requires-clause-last g c =
    search (
      arith,
      domain-from,
      g.L.LeafForm.kind,
      c.args.self.now.upper,
      c.args.self.now.leaf,
      c.args.self.now.spill,
      c.args.self.now.words,
      c.args.self.now.roots,
      c.args.domain,
    )
