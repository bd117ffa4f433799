use Rattle.std.proofs.Common.{ap, get_or, ◌∙◌}
use Rattle.std.specs.Prelude.{slice_set}
use Rattle.mx_machine.specs.declared.hart.Hart.{Hart}
use Rattle.mx_machine.specs.Harts.{hart_among}
use Rattle.mx_machine.specs.Steps.{goes}
use Rattle.mx_machine.proofs.HartList.{hart_read, hart_written}
use Rattle.mx_machine.proofs.harts.Harts.go_with.Goals as goal

pub returns : goal.returns
returns c =
    let part = c.index-self-hart.result in
    let read = hart_read c.self.inside.len c.self.inside.items c.args.self.now c.args.hart part c.self.view_is c.requires in
    hart_written c.self.inside.len c.self.inside.items c.args.self.now c.args.hart part c.self.view_is c.requires
    (goes (slice_set (hart_among c.args.self.now c.args.hart).regs 10 c.args.value) c.args.pc) _
    (c.go_with.ensures ∙ ap (λ (x : Hart). goes (slice_set x.regs 10 c.args.value) c.args.pc (get_or c.self.inside.items c.args.hart part))
    read)
