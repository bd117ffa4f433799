use Rattle.std.proofs.Common.{◌≡◌, ◌*◌, map}
use Rattle.std.specs.List.{range_with_len}
use Rattle.toml.specs.View.{items_of, items_view}
use Rattle.mx_mill.specs.Draws.{draws, number_after}
use Rattle.mx_mill.specs.Table.{module_table}
use Rattle.mx_mill.specs.Words.{words_by}
use Rattle.mx_mill.proofs.table.modules.Given as goal

abbrev pub invariant-modules : goal.invariant-modules
invariant-modules l = record {
  number : l.number ≡ number_after l.k (3 * l.i);
  items : items_view l.modules.items ≡ items_of (map (λ i. module_table i (words_by (draws l.k) i)) (range_with_len 1 l.i));
}
