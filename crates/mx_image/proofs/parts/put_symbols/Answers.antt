use Rattle.std.proofs.Common.{arith}
use Rattle.std.proofs.lemmas.Grind.{common_steps}
use Rattle.mx_image.proofs.Steps.{symbols-step}
use Rattle.mx_image.proofs.parts.put_symbols.Goals as goal

pub labels-preserved : goal.labels-preserved
labels-preserved c = record {
  out = symbols-step c.labels.out c.put_symbol.new.out _ c.labels.at c.args.labels.now c.labels.label-index _ c.labels-test.true
      c.labels.invariant.out c.in_ok-put_symbol.ensures;
  room = grind (arith, common_steps);
  at = grind (arith, common_steps);
}
