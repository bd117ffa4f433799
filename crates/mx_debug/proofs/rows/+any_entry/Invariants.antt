use Rattle.std.proofs.Common.{length}
use Rattle.mx_debug.proofs.rows.+any_entry.Given as goal

abbrev pub decreases-any_entry : goal.decreases-any_entry
decreases-any_entry l = length l.breaks.now
