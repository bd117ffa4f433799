use Rattle.mx_machine.specs.Steps.{gives_up}
use Rattle.mx_machine.proofs.HartList.{hart_written}
use Rattle.mx_machine.proofs.harts.Harts.give_up.Goals as goal

pub returns-clause-after : goal.returns-clause-after
returns-clause-after c =
    hart_written c.self.inside.len c.self.inside.items c.args.self.now c.args.hart c.index-self-hart.result c.self.view_is c.requires.hart
    (gives_up c.args.cause) _ c.give_up.ensures.after
