use Rattle.mx_machine.proofs.FrameLaws.{gives-up-none}
use Rattle.mx_machine.proofs.hart.Hart.give_up.Goals as goal

pub returns-in-None-clause-after : goal.returns-in-None-clause-after
returns-in-None-clause-after c = gives-up-none c.args.cause c.args.self.now c.pop.new.self c.in-None.ensures.top c.in-None.ensures.rest
