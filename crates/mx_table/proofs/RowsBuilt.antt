-- Rows of spans, built span by span.
use Rattle.std.proofs.Common.{ℕ, [], arith}
use Rattle.mx_table.specs.Tables.{IsRow}

pub no_row : (words : ℕ) → IsRow words []
no_row words = record {
  some = λ i lt. absurd (omega arith);
  sorted = λ i lt. absurd (omega arith);
  inside = λ i lt. absurd (omega arith);
}
