use Rattle.std.proofs.Common.{◌≡◌, take, vec_len}
use Rattle.mx_plain.proofs.maps.list_of.Given as goal

abbrev pub invariant-loop-word : goal.invariant-loop-word
invariant-loop-word g l = (l.perms.items ≡ take l.word (g.M.WordMap.list l.map)) × (vec_len l.perms ≡ l.word)
