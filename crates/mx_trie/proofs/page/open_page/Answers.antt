use Rattle.std.proofs.Common.{◌%◌, arith}
use Rattle.std.proofs.lemmas.Bool.{ne_eqb}
use Rattle.mx_trie.proofs.PageTables.{page-made}
use Rattle.mx_trie.proofs.page.open_page.Goals as goal
use Rattle.mx_trie.proofs.page.open_page.Goals.{then-page-lay, else-page-lay}

pub returns-clause-opened : goal.returns-clause-opened
returns-clause-opened g c = λ spill table.
    page-made g.L.LeafForm.kind c.args.leaf.now spill c.make_page.new.leaf c.args.lay.now c.args.beside.now c.if-page-lay.outer c.args.page
    c.args.entry c.make_page.result
    (ne_eqb (c.args.entry % 4) 0 c.if-entry-eq0.false) c.make_page.ensures.made
    (search (arith, g.L.LeafForm.kind, c.args.page))
