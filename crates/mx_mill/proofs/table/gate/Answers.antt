use Rattle.std.proofs.Common.{refl}
use Rattle.toml.proofs.Views.{view-Table}
use Rattle.mx_mill.proofs.table.gate.Goals as goal

pub returns : goal.returns
returns c =
    rw (view-Table c.put-2.new.table, c.in_ok-put-2.ensures, c.in_ok-put.ensures, c.new-table.ensures.empty)
    (rw (c.number.ensures, c.base.ensures.address, c.in_ok-from.ensures, c.in_ok-name.ensures, c.module_before.ensures.number) refl)
