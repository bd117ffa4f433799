-- What the code's lines mean.
use Rattle.std.specs.Prelude.{ℕ, ◌≤◌, List, length, Option, option_map}
use Rattle.std.specs.Borrow.{Bor}
use Rattle.mx_source.specs.declared.lines.Line.{Line as CodeLine}
use Rattle.mx_source.specs.declared.lines.Statement.{Statement as CodeStatement}
use Rattle.mx_source.specs.declared.lines.Statement.TheVariants as code
use Rattle.mx_source.specs.Operands.{pieces_of}
use Rattle.mx_source.specs.Lines.{Statement, Absent, Unlisted, Listed, Line}

abbrev pub label_view : Option (Bor (List ℕ)) → Option (List ℕ)
label_view label = option_map (λ name. name.now) label

abbrev pub statement_view : CodeStatement → Statement
statement_view code.Absent = Absent
statement_view code.Unlisted = Unlisted
statement_view (code.Listed keyword operands) = Listed keyword (pieces_of operands.now)

abbrev pub line_view : CodeLine → Line
line_view line = record { label = label_view line.label; statement = statement_view line.statement }

-- the text of its operands is at most so long
abbrev pub IsShort : ℕ → CodeStatement → Type 0
IsShort most code.Absent = Unit {0}
IsShort most code.Unlisted = Unit {0}
IsShort most (code.Listed keyword operands) = length operands.now ≤ most

abbrev pub AreShort : ℕ → CodeLine → Type 0
AreShort most line = IsShort most line.statement
