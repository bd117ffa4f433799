-- The maps of a row's first spans.
use Rattle.std.specs.Prelude.{ℕ, zero, suc, ◌+◌, List, take, slice_index_or}
use Rattle.std.specs.Prelude.{map as list_map}
use Rattle.mx_words.specs.declared.perm.Perm.{Perm}
use Rattle.mx_words.specs.declared.perm.Span.{Span}
use Rattle.mx_words.specs.Newest.{map}
use Rattle.mx_table.specs.Tables.{granted, no_span}

-- a span of a row, and where the first n of them end
abbrev pub span_at : List Span → ℕ → Span
span_at row i = slice_index_or row i no_span

abbrev pub end_at : List Span → ℕ → ℕ
end_at row zero = 0
end_at row (suc n) = (span_at row n).first + (span_at row n).count

-- the map of the first n spans of a row
abbrev pub first_spans : ℕ → List Span → ℕ → List Perm
first_spans words row n = map (list_map granted (take n row)) words
