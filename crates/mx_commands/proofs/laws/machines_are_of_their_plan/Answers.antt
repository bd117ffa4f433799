use Rattle.mx_commands.proofs.PlanLaws.{boots_of_plan, turns_of_plan}
use Rattle.mx_commands.proofs.laws.machines_are_of_their_plan.Goals as goal

pub returns-clause-boot : goal.returns-clause-boot
returns-clause-boot c = boots_of_plan

pub returns-clause-turn : goal.returns-clause-turn
returns-clause-turn c = turns_of_plan
