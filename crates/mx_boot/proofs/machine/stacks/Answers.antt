use Rattle.std.proofs.Common.{[]}
use Rattle.mx_boot.specs.Starting.{stack_area_of}
use Rattle.mx_boot.proofs.Rows.{grown_by_one}
use Rattle.mx_boot.proofs.machine.stacks.Goals as goal

pub modules-preserved : goal.modules-preserved
modules-preserved c =
    grown_by_one stack_area_of c.args.plan.now.modules c.modules.i c.module.result.now [] c.modules.stacks c.push.new.self
    c.stack_area.result c.module.ensures.value c.modules.invariant c.stack_area.ensures c.push.ensures
