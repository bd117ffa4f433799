use Rattle.mx_resume.specs.Parts.{head_seen}
use Rattle.mx_resume.proofs.Owning.{IsGiven}
use Rattle.mx_resume.proofs.owners.read_owners.Given as goal

abbrev pub invariant-runs : goal.invariant-runs
invariant-runs l = IsGiven (head_seen l.head) l.bytes l.runs l.fn.at l.read l.last l.words l.owners l.at
