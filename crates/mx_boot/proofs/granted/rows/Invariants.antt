use Rattle.mx_boot.proofs.Rowing.{AreRowsTo}
use Rattle.mx_boot.proofs.granted.rows.Given as goal

abbrev pub invariant-modules : goal.invariant-modules
invariant-modules l = AreRowsTo l.plan l.images l.i l.all.items
