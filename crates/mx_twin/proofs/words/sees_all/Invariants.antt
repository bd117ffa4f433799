use Rattle.std.proofs.Common.{◌≡◌, ◌-◌, ◌≤◌, true}
use Rattle.std.specs.List.{list_all, range_with_len}
use Rattle.mx_model.specs.Reads.{flat_reads}
use Rattle.mx_any.specs.Machines.{meaning}
use Rattle.mx_touched.specs.Views.{sees_same}
use Rattle.mx_twin.proofs.words.sees_all.Given as goal

abbrev pub invariant-runs : goal.invariant-runs
invariant-runs l = record {
  low : l.first ≤ l.at;
  high : l.at ≤ l.end;
  seen : list_all (sees_same (flat_reads (meaning l.a)) (meaning l.a).core (flat_reads (meaning l.b)) (meaning l.b).core l.domain)
      (range_with_len l.first (l.at - l.first)) ≡ true;
}

abbrev pub decreases-runs : goal.decreases-runs
decreases-runs l = l.end - l.at
