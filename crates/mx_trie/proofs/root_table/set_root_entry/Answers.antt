use Rattle.std.proofs.Common.{arith}
use Rattle.mx_trie.proofs.RootPlaces.{root_place-apart}
use Rattle.mx_trie.proofs.root_table.set_root_entry.Goals as goal

pub returns-clause-others : goal.returns-clause-others
returns-clause-others c x ne = search (arith, c.set.ensures.others, root_place-apart, c.args.region)
