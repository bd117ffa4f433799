use Rattle.std.proofs.Common.{List, [], sym, ap, ◌∙◌, subst}
use Rattle.mx_words.specs.declared.perm.Perm.{Perm}
use Rattle.mx_words.specs.Rights.{perm_at}
use Rattle.mx_trie.specs.Read.{read_map}
use Rattle.mx_trie.specs.Shape.{length-read_map}
use Rattle.mx_trie.specs.Laying.{IsBeside}
use Rattle.mx_trie.proofs.DomainChanges.{domain-has, domain-known}
use Rattle.mx_trie.proofs.domain.change_domain.Goals as goal

pub beside_of-beside-requires-clause-words : goal.beside_of-beside-requires-clause-words
beside_of-beside-requires-clause-words g c =
    cc (
      c.map_of-map.ensures.map,
      length-read_map g.L.LeafForm.kind c.args.upper.now c.args.leaf.now c.args.spill.now c.args.lay.now.words
          [] c.args.root,
    )

pub change_regions-requires-clause-table : goal.change_regions-requires-clause-table
change_regions-requires-clause-table g c = c.requires.read.table

pub change_regions-requires-clause-stands : goal.change_regions-requires-clause-stands
change_regions-requires-clause-stands g c = record {
  map = read_map g.L.LeafForm.kind c.args.upper.now c.args.leaf.now c.args.spill.now c.args.lay.now.words c.args.root;
  known =
      subst (λ (m : List Perm). IsBeside g.L.LeafForm.kind m c.args.lay.now c.beside_of-beside.result) c.map_of-map.ensures.map
      c.beside_of-beside.ensures;
  regions = c.requires.read.shown;
}

pub returns-then-not-has_perm : goal.returns-then-not-has_perm
returns-then-not-has_perm g c =
    domain-known g.L.LeafForm.kind g.met.L.LeafForm.trie c.args.upper.now c.args.leaf.now c.args.spill.now c.args.lay.now c.args.root
    c.requires.read c.beside_of-beside.result
    c.change_regions.new.upper c.change_regions.new.leaf c.change_regions.new.spill
    (subst (λ (m : List Perm). IsBeside g.L.LeafForm.kind m c.args.lay.now c.beside_of-beside.result) c.map_of-map.ensures.map
    c.beside_of-beside.ensures) c.change_regions.ensures

pub returns-else-not-has_perm : goal.returns-else-not-has_perm
returns-else-not-has_perm g c =
    domain-has g.L.LeafForm.kind g.met.L.LeafForm.trie c.args.upper.now c.args.leaf.now c.args.spill.now c.args.lay.now c.args.root
    c.requires.read
    (λ i from to. ap (λ (m : List Perm). perm_at m i) (sym c.map_of-map.ensures.map)
    ∙ c.has_perm.ensures.yes c.if-not-has_perm.false i from to)
