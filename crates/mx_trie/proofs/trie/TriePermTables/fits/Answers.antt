use Rattle.std.proofs.Common.{arith}
use Rattle.mx_trie.proofs.NeedLaws.{need-same}
use Rattle.mx_trie.proofs.StandingNeeds.{need-read, need-changed, spacious-fits}
use Rattle.mx_trie.proofs.trie.TriePermTables.fits.Goals as goal

pub returns-then-is_spacious : goal.returns-then-is_spacious
returns-then-is_spacious g c =
    search (arith, spacious-fits, g.L.LeafForm.kind, g.met.L.LeafForm.trie, c.args.change.now, c.requires.inside, c.if-is_spacious.true)

pub need_after-need-requires-clause-need : goal.need_after-need-requires-clause-need
need_after-need-requires-clause-need g c = search (arith, g.L.LeafForm.kind, need-read, g.met.L.LeafForm.trie)

pub returns : goal.returns
returns g c =
    search (arith, need-same, g.L.LeafForm.kind, c.args.change.now, c.need_after-need.ensures, need-changed, g.met.L.LeafForm.trie)
