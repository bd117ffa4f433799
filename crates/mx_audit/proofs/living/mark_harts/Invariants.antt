use Rattle.std.proofs.Common.{ℕ, ◌<◌}
use Rattle.mx_any.specs.Machines.{meaning}
use Rattle.mx_model.specs.State.{hart_at}
use Rattle.mx_audit.specs.Marks.{MarkHart, MarkOnlyLive}
use Rattle.mx_audit.proofs.living.mark_harts.Given as goal

abbrev pub invariant-loop-hart : goal.invariant-loop-hart
invariant-loop-hart l = record {
  only : MarkOnlyLive (meaning l.machine).core l.live;
  harts : (h : ℕ) → h < l.hart → MarkHart l.live (hart_at (meaning l.machine).core h);
}
