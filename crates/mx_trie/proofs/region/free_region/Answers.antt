use Rattle.std.proofs.Common.{◌%◌, arith, eq-eqb}
use Rattle.std.proofs.lemmas.Bool.{ne_eqb}
use Rattle.mx_trie.proofs.RegionTables.{region-empty, region-freed}
use Rattle.mx_trie.proofs.region.free_region.Goals as goal

pub free_pages-requires : goal.free_pages-requires
free_pages-requires g c = c.requires (eq-eqb (c.args.entry % 4) 0 c.if-entry-eq0.true)

pub give-requires : goal.give-requires
give-requires g c = (omega arith, c.free_pages.ensures.taken)

pub returns-then-entry-eq0 : goal.returns-then-entry-eq0
returns-then-entry-eq0 g c =
    region-freed g.L.LeafForm.kind c.args.upper.now c.args.leaf.now c.args.spill.now c.free_pages.new.upper c.free_pages.new.leaf
    c.free_pages.new.spill c.give.new.self
    c.args.entry (eq-eqb (c.args.entry % 4) 0 c.if-entry-eq0.true) c.free_pages.ensures c.give.ensures.elsewhere c.give.ensures.more
    c.give.ensures.total

pub returns-else-entry-eq0 : goal.returns-else-entry-eq0
returns-else-entry-eq0 g c =
    region-empty g.L.LeafForm.kind c.args.upper.now c.args.leaf.now c.args.spill.now c.args.entry
    (ne_eqb (c.args.entry % 4) 0 c.if-entry-eq0.false)
