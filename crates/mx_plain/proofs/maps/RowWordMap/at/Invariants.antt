use Rattle.std.proofs.Common.{◌≡◌, take}
use Rattle.mx_plain.proofs.MapLaws.{newest_of}
use Rattle.mx_plain.proofs.maps.RowWordMap.at.Given as goal

abbrev pub invariant-loop-i : goal.invariant-loop-i
invariant-loop-i l = l.perm ≡ newest_of (take l.i l.self.spans.now) l.word
