use Rattle.std.proofs.Common.{sym, arith}
use denote.Enum.Bare.{differs_true}
use Rattle.mx_words.specs.contracts.perm.Perm.{the_type}
use Rattle.mx_trie.proofs.Scans.{ahead-ended, ahead-far}
use Rattle.mx_trie.proofs.beside.behind.Goals as goal
use Rattle.mx_trie.proofs.beside.behind.Goals.{then-loop-end-test+else-end-at, else-loop-end-test}

pub returns-then-ne : goal.returns-then-ne
returns-then-ne g c =
    ahead-ended _ _ _ _ _ c.loop-end.invariant.behind c.loop-end.invariant.alike _ (omega arith) (omega arith) c.around-span.ensures
    (differs_true the_type _ _ (sym c.if-ne.ensures))

pub returns : goal.returns
returns g c = search (arith, g.V.View.map, c.args.most, c.loop-end.end, ahead-far, c.args.perm, c.args.at)
