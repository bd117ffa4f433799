use Rattle.std.proofs.Common.{◌+◌, ◌∙◌, arith}
use Rattle.mx_mill.specs.Table.{hart_table}
use Rattle.mx_mill.proofs.TableLaws.{items_counted}
use Rattle.mx_mill.proofs.table.harts.Goals as goal

pub harts-preserved : goal.harts-preserved
harts-preserved c =
    c.in_ok-add.ensures ∙ rw (c.in_ok-hart.ensures, c.harts.invariant) (items_counted hart_table 1 c.harts.i (c.harts.i + 1) (omega arith))
