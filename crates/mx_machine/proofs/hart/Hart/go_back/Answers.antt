use Rattle.mx_machine.proofs.FrameLaws.{returns-none}
use Rattle.mx_machine.proofs.hart.Hart.go_back.Goals as goal

pub returns-in-None : goal.returns-in-None
returns-in-None c = returns-none c.args.rd c.args.self.now c.pop.new.self c.in-None.ensures.top c.in-None.ensures.rest
