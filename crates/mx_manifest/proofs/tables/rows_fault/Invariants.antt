use Rattle.std.proofs.Common.{◌≡◌}
use Rattle.mx_manifest.specs.Faults.{row_fault, rows_fault}
use Rattle.mx_manifest.specs.Section.{section_view}
use Rattle.mx_manifest.proofs.Loops.{first_from}
use Rattle.mx_manifest.proofs.tables.rows_fault.Given as goal

abbrev pub invariant-loop-row : goal.invariant-loop-row
invariant-loop-row l = first_from (row_fault (section_view l.table)) l.row-index l.rows ≡ rows_fault l.rows (section_view l.table)
