use Rattle.mx_check.proofs.StartLaws.{waiting-keeps}
use Rattle.mx_check.proofs.checker.Checker.resume.Goals as goal

pub invariant_of-result : goal.invariant_of-result
invariant_of-result g c = rw c.waiting.ensures.value (waiting-keeps _ _ _ _ c.requires.few c.waiting.ensures.sets c.requires.flights)
