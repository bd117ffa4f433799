use Rattle.std.proofs.Common.{◌≡◌, ◌+◌, ◌*◌, length}
use Rattle.mx_table.specs.Tables.{IsRow}
use Rattle.mx_plain.proofs.samples.row.Given as goal

abbrev pub invariant-loop-i : goal.invariant-loop-i
invariant-loop-i l = record {
  row : IsRow (l.span.first + l.step * l.i) l.row;
  long : length l.row ≡ l.i;
}
