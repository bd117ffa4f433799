use Rattle.mx_commands.proofs.Names.{names_more}
use Rattle.mx_commands.proofs.running.names.Goals as goal

pub modules-preserved : goal.modules-preserved
modules-preserved c =
    rw c.in_ok-push.ensures.items (names_more c.modules.names.items c.args.kept.now.names c.modules.i c.name.result c.name.ensures.value
    c.modules.invariant)
