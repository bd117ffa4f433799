use Rattle.std.proofs.Common.{◌≡◌, All, vec_len}
use Rattle.mx_table.specs.Tables.{IsRow}
use Rattle.parts_speed.proofs.calls.rows.Given as goal

abbrev pub invariant-loop-module : goal.invariant-loop-module
invariant-loop-module l = record {
  rows : All (IsRow 16777216) l.rows.items;
  count : vec_len l.rows ≡ l.module;
}
