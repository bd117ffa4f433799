use Rattle.std.proofs.Common.{length, ap, arith, length-append}
use Rattle.mx_call_tests.proofs.WorldLaws.{pushed_ends}
use Rattle.mx_call_tests.proofs.worlds.one_heap.Goals as goal

pub loop-module-preserved : goal.loop-module-preserved
loop-module-preserved c =
    let pushed = simp length-append at (ap length c.push-in-loop-module.ensures) in
    record {
      count = omega (arith, pushed);
      areas = λ n within. rw c.push-in-loop-module.ensures (pushed_ends n c.loop-module.heaps c.in-Ok.none
          (c.loop-module.invariant.areas n within) (rw c.in-Ok.ensures (omega arith)));
    }
