use Rattle.std.proofs.Common.{sym, ◌∙◌, arith}
use Rattle.mx_trie.proofs.BuiltTrie.{rows-need, rows-fit}
use Rattle.mx_trie.proofs.trie.TriePermTables.build.Goals as goal

pub returns-then-not-is_within-clause-refused : goal.returns-then-not-is_within-clause-refused
returns-then-not-is_within-clause-refused g c = (
  rows-need g.L.LeafForm.kind g.met.L.LeafForm.trie c.args.words c.requires.few_words c.args.rows.now c.need_of_rows-need.result
      c.need_of_rows-need.ensures,
  sym c.is_within.ensures ∙ c.if-not-is_within.true,
)

pub tables_of-requires-clause-fits : goal.tables_of-requires-clause-fits
tables_of-requires-clause-fits g c =
    search (
      arith,
      rows-fit,
      g.L.LeafForm.kind,
      g.met.L.LeafForm.trie,
      c.args.words,
      c.requires.few_words,
      c.args.rows.now,
      c.need_of_rows-need.result,
      c.args.limit,
      c.need_of_rows-need.ensures,
    )

pub returns-in-Err-clause-refused : goal.returns-in-Err-clause-refused
returns-in-Err-clause-refused g c =
    search (
      arith,
      rows-fit,
      g.L.LeafForm.kind,
      g.met.L.LeafForm.trie,
      c.args.words,
      c.requires.few_words,
      c.args.rows.now,
      c.need_of_rows-need.result,
      c.args.limit,
      c.need_of_rows-need.ensures,
    )
