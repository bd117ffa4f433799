use Rattle.mx_mill.proofs.BootLaws.{mill_boots}
use Rattle.mx_mill.proofs.FaultLaws.{mill_judged}
use Rattle.mx_mill.proofs.laws.mills_boot.Goals as goal

pub returns-clause-judged : goal.returns-clause-judged
returns-clause-judged c = mill_judged

pub returns-clause-boots : goal.returns-clause-boots
returns-clause-boots c = mill_boots
