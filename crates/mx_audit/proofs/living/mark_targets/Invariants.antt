use Rattle.std.proofs.Common.{◌≡◌, ◌-◌, ◌<◌, ◌≤◌, false, true, length, take, IsTrue}
use Rattle.std.specs.List.{AllByRecursion}
use Rattle.mx_any.specs.Machines.{meaning}
use Rattle.mx_model.specs.declared.values.Gate.{Gate}
use Rattle.mx_audit.specs.Marks.{KeepMarks, MarkOnlyLive, is_marked, unmarked}
use Rattle.mx_audit.proofs.living.mark_targets.Given as goal

abbrev pub invariant-gates : goal.invariant-gates
invariant-gates l =
    let gates = (meaning l.machine).core.gates in
    record {
      long : length l.live ≡ 64;
      within : l.i ≤ length gates;
      only : MarkOnlyLive (meaning l.machine).core l.live;
      kept : KeepMarks l.fn.live l.live;
      fewer : unmarked l.live ≤ unmarked l.fn.live;
      more : l.more ≡ true → unmarked l.live < unmarked l.fn.live;
      all : l.more ≡ false → AllByRecursion (λ (g : Gate). IsTrue (is_marked l.live g.domain)
          → IsTrue (is_marked l.live g.target)) (take l.i gates);
    }

abbrev pub decreases-gates : goal.decreases-gates
decreases-gates l = length (meaning l.machine).core.gates - l.i
