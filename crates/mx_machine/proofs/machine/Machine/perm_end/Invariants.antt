use Rattle.std.proofs.Common.{◌-◌}
use Rattle.mx_model.specs.Reads.{map_in}
use Rattle.mx_machine.proofs.MapRuns.{IsAlike}
use Rattle.mx_machine.proofs.machine.Machine.perm_end.Given as goal

abbrev pub invariant-spans : goal.invariant-spans
invariant-spans g l =
    let f = l.self in
    IsAlike (map_in f.core.size f.maps l.domain) l.word l.end

abbrev pub decreases-spans : goal.decreases-spans
decreases-spans g l = l.self.core.size - l.end
