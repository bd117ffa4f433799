use Rattle.std.proofs.Common.{refl}
use Rattle.toml.proofs.Views.{view-Array}
use Rattle.mx_mill.specs.Table.{mill_table}
use Rattle.mx_mill.proofs.table.mill_table.Goals as goal

pub returns : goal.returns
unfolding mill_table
returns c =
    rw (
      c.in_ok-put-4.ensures,
      c.in_ok-put-3.ensures,
      c.in_ok-put-2.ensures,
      c.in_ok-put.ensures,
      c.new-table.ensures.empty,
      c.number.ensures,
      c.number-2.ensures,
      view-Array c.in_ok-harts.harts,
      view-Array c.in_ok-modules.modules,
      c.in_ok-harts.ensures,
      c.in_ok-modules.ensures,
    ) refl
