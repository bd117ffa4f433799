use Rattle.mx_machine.specs.Steps.{takes_answer}
use Rattle.mx_machine.proofs.HartList.{hart_written}
use Rattle.mx_machine.proofs.harts.Harts.answer.Goals as goal

pub returns : goal.returns
returns c =
    hart_written c.self.inside.len c.self.inside.items c.args.self.now c.args.hart c.index-self-hart.result c.self.view_is c.requires
    (takes_answer c.args.a0 c.args.a1) _ c.answer.ensures
