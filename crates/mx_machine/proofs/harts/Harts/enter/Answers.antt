use Rattle.mx_machine.specs.Steps.{enters}
use Rattle.mx_machine.proofs.HartList.{hart_written}
use Rattle.mx_machine.proofs.harts.Harts.enter.Goals as goal

pub returns : goal.returns
returns c =
    hart_written c.self.inside.len c.self.inside.items c.args.self.now c.args.hart c.index-self-hart.result c.self.view_is c.requires.hart
    (enters c.args.domain c.args.stack) _ c.enter.ensures
