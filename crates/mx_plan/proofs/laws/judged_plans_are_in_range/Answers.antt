use Rattle.mx_plan.proofs.Ranges.{judged_in_range}
use Rattle.mx_plan.proofs.laws.judged_plans_are_in_range.Goals as goal

pub returns : goal.returns
returns c = judged_in_range
