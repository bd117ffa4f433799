use Rattle.std.proofs.Common.{◌/◌, inr, refl}
use Rattle.mx_trie.proofs.Digits.{flat-digits}
use Rattle.mx_trie.proofs.table_view.alike_in.Goals as goal

pub returns-then-perms : goal.returns-then-perms
returns-then-perms c = inr (refl, λ e below. flat-digits (c.args.entry / 4) e c.if-perms.true below)
