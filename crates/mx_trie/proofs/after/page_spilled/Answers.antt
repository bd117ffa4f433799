use Rattle.std.proofs.Common.{◌+◌, ◌-◌, ◌/◌, sym, ◌∙◌}
use Rattle.mx_trie.proofs.DomainPages.{path-taken, leaf-taken, leaf-broken, leaf-lines}
use Rattle.mx_trie.proofs.SpillCounts.{even-within}
use Rattle.mx_trie.proofs.after.page_spilled.Goals as goal

pub has_table-requires-clause-taken : goal.has_table-requires-clause-taken
has_table-requires-clause-taken g c =
    path-taken g.L.LeafForm.kind c.args.upper.now c.args.leaf.now c.requires.read.0 c.args.root c.args.page c.requires.page
    c.requires.read.1.table

pub returns-then-not-has_table-clause-count : goal.returns-then-not-has_table-clause-count
returns-then-not-has_table-clause-count g c spill m shown =
    even-within g.L.LeafForm.kind m (c.args.lay.now.first / 16) ((c.args.lay.now.end - 1) / 16 + 1) c.args.page
    (sym (leaf-broken g.L.LeafForm.kind c.args.upper.now c.args.leaf.now spill c.args.root c.args.page c.requires.page m shown)
    ∙ sym c.has_table.ensures ∙ c.if-not-has_table.true)

pub lines_spilled-requires-clause-taken : goal.lines_spilled-requires-clause-taken
lines_spilled-requires-clause-taken g c =
    leaf-taken g.L.LeafForm.kind c.args.upper.now c.args.leaf.now c.requires.read.0 c.args.root c.args.page c.requires.page
    c.requires.read.1.table
    c.root_entry-mid.result c.get-frame.result c.root_entry-mid.ensures c.get-frame.ensures (sym c.has_table.ensures
    ∙ c.if-not-has_table.false)

pub returns-clause-count : goal.returns-clause-count
returns-clause-count g c spill m shown =
    c.lines_spilled.ensures.count spill m
    (leaf-lines g.L.LeafForm.kind c.args.upper.now c.args.leaf.now spill c.args.root c.args.page c.requires.page m shown
    c.root_entry-mid.result c.get-frame.result c.root_entry-mid.ensures c.get-frame.ensures (sym c.has_table.ensures
    ∙ c.if-not-has_table.false))
