use Rattle.std.proofs.Common.{ap, get_or, ◌∙◌}
use Rattle.mx_machine.specs.declared.hart.Hart.{Hart}
use Rattle.mx_machine.specs.Harts.{hart_among}
use Rattle.mx_machine.specs.Steps.{instructed, regs_left}
use Rattle.mx_machine.proofs.HartList.{hart_read, hart_written}
use Rattle.mx_machine.proofs.harts.Harts.instruct.Goals as goal

pub returns-clause-after : goal.returns-clause-after
returns-clause-after g c =
    let part = c.index-self-hart.result in
    let read = hart_read c.self.inside.len c.self.inside.items c.args.self.now c.args.hart part c.self.view_is c.requires.hart in
    hart_written c.self.inside.len c.self.inside.items c.args.self.now c.args.hart part c.self.view_is c.requires.hart
    (instructed (regs_left g.B.Bus.perm g.B.Bus.bytes c.args.returns (hart_among c.args.self.now c.args.hart) c.args.bus.now)
    c.instruct.result) _
    (c.instruct.ensures.after ∙ ap (λ (x : Hart). instructed (regs_left g.B.Bus.perm g.B.Bus.bytes c.args.returns x c.args.bus.now)
    c.instruct.result (get_or c.self.inside.items c.args.hart part)) read)
