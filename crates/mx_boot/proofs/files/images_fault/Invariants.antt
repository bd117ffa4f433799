use Rattle.std.proofs.Common.{◌≡◌}
use Rattle.mx_boot.specs.Areas.{homes}
use Rattle.mx_boot.specs.Faults.{image_rows}
use Rattle.mx_boot.proofs.Rows.{first_from}
use Rattle.mx_boot.proofs.files.images_fault.Given as goal

abbrev pub invariant-loop-i : goal.invariant-loop-i
invariant-loop-i l = first_from image_rows l.i (homes l.plan l.images) ≡ first_from image_rows 0 (homes l.plan l.images)
