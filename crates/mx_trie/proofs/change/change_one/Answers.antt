use Rattle.std.proofs.Common.{◌+◌, ◌∙◌, arith}
use Rattle.mx_table.specs.Change.{given}
use Rattle.mx_trie.specs.Standing.{map_at}
use Rattle.mx_trie.proofs.DomainsChanged.{tables-changed, map-changed, map-others}
use Rattle.mx_trie.proofs.NeedOfChange.{laid-named}
use Rattle.mx_trie.proofs.change.change_one.Goals as goal

pub returns-in-Some-clause-tables : goal.returns-in-Some-clause-tables
returns-in-Some-clause-tables g c =
    search (
      arith,
      tables-changed,
      g.met.L.LeafForm.trie,
      c.requires.tables,
      c.requires.row,
      c.in-Some.lay,
      c.in-Some.ensures.words,
      c.at.ensures,
    )

pub returns-in-Some-clause-changed : goal.returns-in-Some-clause-changed
returns-in-Some-clause-changed g c =
    let e = c.in-Some.ensures in
    map-changed g.L.LeafForm.kind g.met.L.LeafForm.trie c.args.words c.args.upper.now c.args.leaf.now c.args.spill.now
    c.change_domain.new.upper c.change_domain.new.leaf c.change_domain.new.spill
    c.args.roots.now c.requires.tables c.args.row c.requires.row c.in-Some.lay e.words c.at.result c.at.ensures c.change_domain.ensures
    ∙ laid-named c.args.change.now.first c.args.change.now.count (given c.args.change.now (c.args.row + 1))
    (map_at g.L.LeafForm.kind c.args.words c.args.upper.now c.args.leaf.now c.args.spill.now c.args.roots.now c.args.row)
    c.in-Some.lay e.first e.end e.some

pub returns-in-Some-clause-same : goal.returns-in-Some-clause-same
returns-in-Some-clause-same g c =
    search (
      arith,
      map-others,
      g.met.L.LeafForm.trie,
      c.requires.tables,
      c.requires.row,
      c.in-Some.lay,
      c.in-Some.ensures.words,
      c.at.ensures,
    )
