use Rattle.std.proofs.Common.{sym, ap, ◌∙◌, is_some}
use Rattle.mx_trie.proofs.LineChanges.{line-stays}
use Rattle.mx_trie.proofs.LineCuts.{apart-perms}
use Rattle.mx_trie.proofs.line.change_line.Goals as goal

pub returns-then-is_some : goal.returns-then-is_some
returns-then-is_some g c =
    line-stays g.L.LeafForm.kind g.met.L.LeafForm.trie c.args.spill.now c.args.lay.now c.args.beside.now c.args.line c.args.entry
    (sym (ap is_some c.spill_of.ensures.value) ∙ sym c.is_some.ensures ∙ c.if-is_some.true) c.requires.stands.taken
    (λ m known. apart-perms g.L.LeafForm.kind m c.args.lay.now c.args.beside.now known c.args.line c.requires.line
    (c.meets.ensures.no c.if-meets.false))
