use Rattle.mx_audit.proofs.StayLaws.{runs-sealed}
use Rattle.mx_audit.proofs.laws.runs_of_sealed_words.Goals as goal

pub returns : goal.returns
returns c = runs-sealed
