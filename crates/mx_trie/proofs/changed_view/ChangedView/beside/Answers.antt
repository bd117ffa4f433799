use Rattle.std.proofs.Common.{◌+◌, ◌≤◌, inl, inr, arith}
use Rattle.mx_trie.proofs.LaidSpans.{before-round, behind-round}
use Rattle.mx_trie.proofs.changed_view.ChangedView.beside.Goals as goal

pub returns-then-word-self : goal.returns-then-word-self
returns-then-word-self g c =
    search (arith, before-round, c.requires.inside, c.requires.few, c.args.span, c.requires.round, c.if-word-self.true)

pub returns-else-word-self : goal.returns-else-word-self
returns-else-word-self g c =
    let v = c.args.self.now in
    let above : v.first + v.count ≤ c.args.word =
    elim c.requires.outside [ inl h ↦ absurd (omega (arith, h, c.if-word-self.false)) | inr h ↦ h ] in
    behind-round (g.V.View.map v.under.now) v.first v.count v.perm c.requires.inside c.requires.few c.args.word c.args.span
    c.max-first.result c.requires.round above c.max-first.ensures
