use Rattle.mx_trie.proofs.Digits.{masked}
use Rattle.mx_trie.proofs.vector.digit.Goals as goal

pub returns-clause-value : goal.returns-clause-value
returns-clause-value c = masked c.args.entry c.args.i
