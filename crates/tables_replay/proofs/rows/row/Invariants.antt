use Rattle.std.proofs.Common.{◌≤◌, length}
use Rattle.mx_table.specs.Tables.{IsRow}
use Rattle.tables_replay.proofs.rows.row.Given as goal

abbrev pub invariant-loop : goal.invariant-loop
invariant-loop l = record {
  row : IsRow l.end l.row;
  few : length l.row ≤ l.counter;
  inside : l.end ≤ l.words;
}
