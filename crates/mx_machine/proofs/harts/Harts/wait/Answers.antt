use Rattle.mx_machine.specs.Steps.{waits}
use Rattle.mx_machine.proofs.HartList.{hart_written}
use Rattle.mx_machine.proofs.harts.Harts.wait.Goals as goal

pub returns : goal.returns
returns c =
    hart_written c.self.inside.len c.self.inside.items c.args.self.now c.args.hart c.index-self-hart.result c.self.view_is c.requires
    waits _ c.wait.ensures
