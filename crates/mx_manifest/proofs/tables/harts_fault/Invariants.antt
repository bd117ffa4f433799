use Rattle.std.proofs.Common.{◌≡◌, map}
use Rattle.toml.specs.View.{view}
use Rattle.mx_manifest.specs.declared.fault.Part.TheVariants as part
use Rattle.mx_manifest.specs.Faults.{each_fault, table_fault}
use Rattle.mx_manifest.specs.Rows.{hart_rows}
use Rattle.mx_manifest.proofs.Loops.{each_from}
use Rattle.mx_manifest.proofs.tables.harts_fault.Given as goal

abbrev pub invariant-loop-i : goal.invariant-loop-i
invariant-loop-i l = each_from part.Hart (λ n. table_fault hart_rows) l.i l.harts
    ≡ each_fault part.Hart (λ n. table_fault hart_rows) (map view l.harts)
