use Rattle.mx_laws.proofs.quiet.quiet_turns.Goals as goal
use Rattle.mx_laws.proofs.QuietLaws.{added-turn, adds-turned, end-turned, left-row, same-turn, standing-turned}

pub returns-clause-made : goal.returns-clause-made
returns-clause-made c = adds-turned

pub returns-clause-state : goal.returns-clause-state
returns-clause-state c = added-turn

pub returns-clause-flat : goal.returns-clause-flat
returns-clause-flat c = same-turn

pub returns-clause-row : goal.returns-clause-row
returns-clause-row c = left-row

pub returns-clause-standing : goal.returns-clause-standing
returns-clause-standing c = standing-turned

pub returns-clause-going : goal.returns-clause-going
returns-clause-going c = end-turned
