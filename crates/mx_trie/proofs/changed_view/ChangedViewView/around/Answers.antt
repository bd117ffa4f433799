use Rattle.mx_trie.proofs.LaidSpans.{laid-round}
use Rattle.mx_trie.proofs.changed_view.ChangedViewView.around.Goals as goal

pub returns-then-is_laid : goal.returns-then-is_laid
returns-then-is_laid g c =
    let v = c.args.self.now in
    let in_range = c.is_laid.ensures.yes c.if-is_laid.true in
    rw c.laid.ensures (laid-round (g.V.View.map v.under.now) v.first v.count v.perm c.requires.lawful.1.0 c.requires.lawful.1.1 c.args.word
    in_range.0 in_range.1)
