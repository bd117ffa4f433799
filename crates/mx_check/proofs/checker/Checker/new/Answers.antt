use Rattle.mx_check.proofs.StartLaws.{new-keeps}
use Rattle.mx_check.proofs.checker.Checker.new.Goals as goal

pub invariant_of-result : goal.invariant_of-result
invariant_of-result g c = rw c.new.ensures (new-keeps _ _ c.requires.few)
