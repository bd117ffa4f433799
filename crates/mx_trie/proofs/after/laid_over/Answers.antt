use Rattle.mx_trie.proofs.NeedOfRange.{is-laid}
use Rattle.mx_trie.proofs.after.laid_over.Goals as goal

pub returns-clause-laid : goal.returns-clause-laid
returns-clause-laid g c = is-laid (g.V.View.map c.args.old.now) c.args.lay.now c.requires.long
