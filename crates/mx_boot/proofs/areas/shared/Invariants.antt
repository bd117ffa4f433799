use Rattle.std.proofs.Common.{◌≡◌, drop, find}
use Rattle.mx_boot.specs.Faults.{shares_word}
use Rattle.mx_boot.proofs.areas.shared.Given as goal

abbrev pub invariant-loop-other : goal.invariant-loop-other
invariant-loop-other l = find (shares_word l.area) (drop l.other-index l.earlier) ≡ find (shares_word l.area) l.earlier
