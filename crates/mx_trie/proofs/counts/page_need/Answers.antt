use Rattle.std.proofs.Common.{arith}
use Rattle.std.proofs.Math.Bool.{not-not}
use Rattle.mx_trie.proofs.EvenTables.{even-of}
use Rattle.mx_trie.proofs.BuiltBlocks.{even-crowd}
use Rattle.mx_trie.proofs.counts.page_need.Goals as goal

pub returns-then-is_page_even-clause-leaf : goal.returns-then-is_page_even-clause-leaf
returns-then-is_page_even-clause-leaf g c = search (arith, not-not, g.V.View.map)

pub returns-then-is_page_even-clause-spill : goal.returns-then-is_page_even-clause-spill
returns-then-is_page_even-clause-spill g c =
    search (arith, even-crowd, g.L.LeafForm.kind, g.V.View.map, c.args.page, even-of, not-not)

pub returns-clause-leaf : goal.returns-clause-leaf
returns-clause-leaf g c = search (arith, not-not, g.V.View.map)
