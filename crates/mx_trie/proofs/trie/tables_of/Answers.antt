use Rattle.std.proofs.Common.{arith}
use Rattle.mx_trie.proofs.BuiltTrie.{rows-room, rows-read, rows-stand}
use Rattle.mx_trie.proofs.trie.tables_of.Goals as goal

pub build_rows-requires-clause-room : goal.build_rows-requires-clause-room
build_rows-requires-clause-room g c =
    search (
      arith,
      rows-room,
      g.L.LeafForm.kind,
      g.met.L.LeafForm.trie,
      c.args.words,
      c.requires.few_words,
      c.args.rows.now,
      c.args.limit,
      c.requires.fits,
      c.in_ok-upper.upper,
      c.in_ok-leaf.leaf,
      c.in_ok-spill.spill,
      c.in_ok-upper.ensures,
      c.in_ok-leaf.ensures,
    )

pub invariant_of-result : goal.invariant_of-result
invariant_of-result g c =
    search (
      arith,
      rows-stand,
      g.met.L.LeafForm.trie,
      c.args.limit,
      c.in_ok-upper.ensures,
      c.in_ok-leaf.ensures,
      c.in_ok-spill.ensures,
      c.in_ok-roots.ensures,
    )

pub returns-clause-maps : goal.returns-clause-maps
returns-clause-maps g c =
    search (
      arith,
      rows-read,
      g.L.LeafForm.kind,
      g.met.L.LeafForm.trie,
      c.args.words,
      c.requires.few_words,
      c.args.rows.now,
      c.args.limit,
      c.requires.fits,
      c.in_ok-upper.upper,
      c.in_ok-leaf.leaf,
      c.in_ok-spill.spill,
      c.in_ok-upper.ensures,
      c.in_ok-leaf.ensures,
      c.in_ok-spill.ensures,
      c.in_ok-roots.roots,
    )
