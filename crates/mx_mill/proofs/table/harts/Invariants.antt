use Rattle.std.proofs.Common.{◌≡◌, map}
use Rattle.std.specs.List.{range_with_len}
use Rattle.toml.specs.View.{items_of, items_view}
use Rattle.mx_mill.specs.Table.{hart_table}
use Rattle.mx_mill.proofs.table.harts.Given as goal

abbrev pub invariant-harts : goal.invariant-harts
invariant-harts l = items_view l.harts.items ≡ items_of (map hart_table (range_with_len 1 l.i))
