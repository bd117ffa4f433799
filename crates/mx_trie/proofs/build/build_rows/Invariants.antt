use Rattle.mx_trie.specs.Built.{rows_map}
use Rattle.mx_trie.proofs.BuiltRows.{AreRowsBuilt}
use Rattle.mx_trie.proofs.build.build_rows.Given as goal

abbrev pub invariant-loop-row : goal.invariant-loop-row
invariant-loop-row g l =
    AreRowsBuilt g.L.LeafForm.kind (rows_map l.words l.rows) l.fn.upper l.fn.leaf l.fn.spill l.upper l.leaf l.spill l.roots l.row-index
