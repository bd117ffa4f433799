use Rattle.std.proofs.Common.{arith}
use Rattle.mx_trie.proofs.StandingNeeds.{frames-counted, maps-changed, standing-changed}
use Rattle.mx_trie.proofs.trie.TriePermTables.apply.Goals as goal

pub change_all-requires-clause-upper_room : goal.change_all-requires-clause-upper_room
change_all-requires-clause-upper_room g c = search (arith, frames-counted, g.L.LeafForm.kind, g.met.L.LeafForm.trie)

pub change_all-requires-clause-leaf_room : goal.change_all-requires-clause-leaf_room
change_all-requires-clause-leaf_room g c = search (arith, frames-counted, g.L.LeafForm.kind, g.met.L.LeafForm.trie)

pub change_all-requires-clause-spill_room : goal.change_all-requires-clause-spill_room
change_all-requires-clause-spill_room g c = search (arith, frames-counted, g.L.LeafForm.kind, g.met.L.LeafForm.trie)

pub returns-clause-changed : goal.returns-clause-changed
returns-clause-changed g c = search (arith, maps-changed, g.L.LeafForm.kind, g.met.L.LeafForm.trie, c.args.change.now)

pub invariant_of-self : goal.invariant_of-self
invariant_of-self g c = search (arith, standing-changed, g.met.L.LeafForm.trie, c.args.change.now)
