use Rattle.std.proofs.Common.{◌≡◌, All, vec_len}
use Rattle.mx_table.specs.Tables.{IsRow}
use Rattle.tables_speed.proofs.allocs.rows.Given as goal

abbrev pub invariant-loop-domain : goal.invariant-loop-domain
invariant-loop-domain l = record {
  rows : All (IsRow 16777216) l.rows.items;
  count : vec_len l.rows ≡ l.domain;
}
