use Rattle.std.proofs.Common.{sym, ◌∙◌, arith, rules}
use denote.Enum.Bare.{differs_true, differs_false}
use Rattle.mx_words.specs.contracts.perm.Perm.{the_type}
use Rattle.mx_trie.proofs.LineReaches.{right-short, right-other, right-same}
use Rattle.mx_trie.proofs.line.right_before.Goals as goal

pub returns-then-old-gap-clause-value : goal.returns-then-old-gap-clause-value
returns-then-old-gap-clause-value c kind m known most old perm =
    search (arith, right-short, c.args.lay.now, c.args.beside.now, c.requires.before)

pub returns-then-ne-clause-value : goal.returns-then-ne-clause-value
returns-then-ne-clause-value c kind m known most old perm =
    right-other kind m c.args.lay.now c.args.beside.now known c.args.line c.requires.before c.args.old old c.if-old-gap.false
    (λ e. differs_true the_type _ _ (sym c.if-ne.ensures) (perm ∙ sym e))

pub returns-clause-value : goal.returns-clause-value
returns-clause-value c kind m known most old perm =
    let same = differs_false the_type (search rules) c.args.perm c.args.lay.now.perm (sym c.if-ne.ensures) in
    let value = right-same kind m c.args.lay.now c.args.beside.now known c.args.line c.requires.before c.args.old old c.if-old-gap.false
    (sym perm ∙ same) in
    omega (arith, value, most, c.min.ensures)
