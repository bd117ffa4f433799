use Rattle.mx_boot.proofs.Placing.{empty_fit}
use Rattle.mx_boot.proofs.laws.empty_inputs_fit.Goals as goal

pub returns : goal.returns
returns c = empty_fit c.args.plan.now c.plan_is_in_range.ensures
