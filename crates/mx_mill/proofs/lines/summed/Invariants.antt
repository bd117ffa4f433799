use Rattle.std.proofs.Common.{◌≡◌, ◌*◌, ◌^◌, ◌≤◌, sum_by}
use Rattle.std.specs.List.{range_with_len}
use Rattle.mx_any.specs.Machines.{meaning}
use Rattle.mx_model.specs.State.{cache_at}
use Rattle.mx_mill.proofs.lines.summed.Given as goal

abbrev pub invariant-summing : goal.invariant-summing
invariant-summing l = record {
  sidecar : l.sums.sidecar ≡ sum_by (λ h. (cache_at (meaning l.machine).core h).sidecar) (range_with_len 0 l.hart);
  lookaside : l.sums.lookaside ≡ sum_by (λ h. (cache_at (meaning l.machine).core h).lookaside) (range_with_len 0 l.hart);
  walks : l.sums.walks ≡ sum_by (λ h. (cache_at (meaning l.machine).core h).walks) (range_with_len 0 l.hart);
  few_sidecar : l.sums.sidecar ≤ 2 ^ 64 * l.hart;
  few_lookaside : l.sums.lookaside ≤ 2 ^ 64 * l.hart;
  few_walks : l.sums.walks ≤ 2 ^ 64 * l.hart;
}
