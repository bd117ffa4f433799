use Rattle.std.proofs.Common.{lit<, lit≤, replicate, None}
use Rattle.mx_table.proofs.NamedLaws.{names_none, names_more}
use Rattle.mx_table_tests.proofs.checks.runs.withdrawal.Goals as goal

pub returns-clause-lawful : goal.returns-clause-lawful
returns-clause-lawful c = record {
  some = lit< tt;
  inside = lit≤ tt;
  named = λ d other.
      names_more 2 (replicate 64 None) 2 _ (lit≤ tt) (lit≤ tt) (names_none 2) d other;
}
