use Rattle.std.proofs.Common.{sym, arith}
use Rattle.mx_words.proofs.CountingLaws.{sum_below-zero}
use Rattle.mx_segments.proofs.KeptLaws.{sum_step}
use Rattle.mx_segments.proofs.rows.need_after.Goals as goal

pub loop-row-init : goal.loop-row-init
loop-row-init c = record { needed = sym (sum_below-zero _); most = omega arith }

pub loop-row-preserved : goal.loop-row-preserved
loop-row-preserved c = record {
  needed = sum_step _ _ _ _ c.loop-row.invariant.needed c.row_need-needed.ensures.need;
  most = (let m = c.loop-row.invariant.most in omega (arith, c.row_need-needed.ensures.most));
}
