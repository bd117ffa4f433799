use Rattle.std.proofs.Common.{◌≡◌, All, vec_len}
use Rattle.mx_table.specs.Tables.{IsRow}
use Rattle.tables_replay.proofs.rows.rows.Given as goal

abbrev pub invariant-loop : goal.invariant-loop
invariant-loop l = record {
  rows : All (IsRow l.words) l.rows.items;
  count : vec_len l.rows ≡ l.counter;
}
