use Rattle.std.proofs.Common.{List, subst}
use Rattle.mx_words.specs.declared.perm.Perm.{Perm}
use Rattle.mx_trie.specs.Found.{IsFound}
use Rattle.mx_trie.specs.Shape.{map_of-read}
use Rattle.mx_trie.proofs.trie.Trie.find_word.Goals as goal

pub returns : goal.returns
returns g c =
    let t = c.args.self.now in
    subst (λ (m : List Perm). IsFound g.L.LeafForm.kind m c.args.word c.find.result)
    (cc (
      c.get.ensures,
      map_of-read g.L.LeafForm.kind t.upper t.leaf t.spill t.words t.roots c.args.domain c.requires.first
          c.requires.last,
    ))
    c.find.ensures
