use Rattle.std.proofs.Common.{◌*◌, ◌<◌, length, sym, ◌∙◌, arith, rules}
use denote.Enum.Bare.{differs_true, differs_false}
use Rattle.mx_words.specs.contracts.perm.Perm.{the_type}
use Rattle.mx_trie.proofs.LineReaches.{left-outside, left-short, left-other, left-same}
use Rattle.mx_trie.proofs.line.left_behind.Goals as goal
use Rattle.mx_trie.proofs.line.left_behind.Goals.{then-begin-lay-via-then-begin-lay, then-begin-lay-via-else-begin-lay+then-old-gap}

pub returns-then-begin-lay-clause-value : goal.returns-then-begin-lay-clause-value
returns-then-begin-lay-clause-value c kind m known most old perm =
    elim c.then-begin-lay.branch [
      | then-begin-lay-via-then-begin-lay w ↦
          old ∙ left-outside kind m c.args.lay.now c.args.beside.now known c.args.line c.requires.behind (omega arith)
      | then-begin-lay-via-else-begin-lay+then-old-gap w ↦
          left-short kind m c.args.lay.now c.args.beside.now known c.args.line c.requires.behind (omega arith) c.args.old old
          w.if-old-gap.true
    ]

pub returns-then-ne-clause-value : goal.returns-then-ne-clause-value
returns-then-ne-clause-value c kind m known most old perm =
    let inside : c.args.line * 16 < length m = (let h = c.if-begin-lay.false in omega arith) in
    left-other kind m c.args.lay.now c.args.beside.now known c.args.line c.requires.behind inside c.args.old old c.if-old-gap.false
    (λ e. differs_true the_type _ _ (sym c.if-ne.ensures) (perm ∙ sym e))

pub returns-clause-value : goal.returns-clause-value
returns-clause-value c kind m known most old perm =
    let long = known.long in
    let inside : c.args.line * 16 < length m = (let h = c.if-begin-lay.false in omega arith) in
    let same = differs_false the_type (search rules) c.args.perm c.args.lay.now.perm (sym c.if-ne.ensures) in
    let value = left-same kind m c.args.lay.now c.args.beside.now known c.args.line c.requires.behind inside c.args.old old
    c.if-old-gap.false (sym perm ∙ same) in
    omega (arith, value, most, c.min.ensures)
