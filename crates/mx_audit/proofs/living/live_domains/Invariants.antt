use Rattle.mx_any.specs.Machines.{meaning}
use Rattle.mx_audit.specs.Marks.{MarkHarts, MarkOnlyLive, unmarked}
use Rattle.mx_audit.proofs.living.live_domains.Given as goal

abbrev pub invariant-passes : goal.invariant-passes
invariant-passes l = record {
  only : MarkOnlyLive (meaning l.machine).core l.live;
  harts : MarkHarts (meaning l.machine).core l.live;
}

abbrev pub decreases-passes : goal.decreases-passes
decreases-passes l = unmarked l.live
