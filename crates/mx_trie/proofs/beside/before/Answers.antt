use Rattle.std.proofs.Common.{sym, arith}
use denote.Enum.Bare.{differs_true}
use Rattle.mx_words.specs.contracts.perm.Perm.{the_type}
use Rattle.mx_trie.proofs.Scans.{back-ended, back-far}
use Rattle.mx_trie.proofs.beside.before.Goals as goal
use Rattle.mx_trie.proofs.beside.before.Goals.{then-loop-begin-test+else-at-begin, else-loop-begin-test}

pub returns-then-ne : goal.returns-then-ne
returns-then-ne g c =
    back-ended _ _ _ _ _ c.loop-begin.invariant.before c.requires.inside c.loop-begin.invariant.alike _ (omega arith) (omega arith)
    c.around-span.ensures
    (differs_true the_type _ _ (sym c.if-ne.ensures))

pub returns : goal.returns
returns g c =
    search (arith, c.args.most, c.args.at, back-far, c.args.perm, g.V.View.map, c.loop-begin.begin, c.requires.inside)
