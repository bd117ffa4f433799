use Rattle.std.proofs.Common.{◌+◌, sym, ap, ◌∙◌, arith}
use Rattle.mx_audit.proofs.RunLaws.{in-ram-at, words_more}
use Rattle.mx_audit.proofs.lines.words_of.Goals as goal

pub loop-i-preserved : goal.loop-i-preserved
loop-i-preserved c = record {
  sum = ap (λ n. n + c.get.result.count) c.loop-i.invariant.sum ∙ sym (words_more c.args.runs.now c.loop-i.i c.get.result c.get.ensures);
  small = omega (arith, c.loop-i.invariant.small, in-ram-at c.args.runs.now c.loop-i.i c.get.result c.requires c.get.ensures);
}
