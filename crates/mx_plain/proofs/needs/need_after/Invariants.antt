use Rattle.std.proofs.Common.{◌≡◌, take}
use Rattle.mx_words.specs.Need.{need}
use Rattle.mx_table.specs.Change.{changed}
use Rattle.mx_plain.specs.Sums.{IsFew}
use Rattle.mx_plain.proofs.needs.need_after.Given as goal

abbrev pub invariant-loop-i : goal.invariant-loop-i
invariant-loop-i l = (l.needed ≡ need l.kind (take l.i (changed l.change l.maps))) × IsFew l.i l.needed
