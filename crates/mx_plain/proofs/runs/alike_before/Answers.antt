use Rattle.std.proofs.Common.{sym, ap, ◌∙◌, arith}
use Rattle.mx_words.specs.Rights.{same}
use Rattle.mx_plain.proofs.RunTests.{same_is, alike_before_is}
use Rattle.mx_plain.proofs.runs.alike_before.Goals as goal

pub returns-else-eq-clause-count : goal.returns-else-eq-clause-count
returns-else-eq-clause-count c =
    alike_before_is c.args.map.now c.args.perm c.args.low c.args.end c.loop-count.count c.requires.inside c.loop-count.invariant.0
    c.loop-count.invariant.1
    (λ below. ap (same c.args.perm) (sym c.at.ensures) ∙ sym (same_is _ _) ∙ sym c.if-eq.ensures)

pub returns-after-loop-count-clause-count : goal.returns-after-loop-count-clause-count
returns-after-loop-count-clause-count c =
    alike_before_is c.args.map.now c.args.perm c.args.low c.args.end c.loop-count.count c.requires.inside c.loop-count.invariant.0
    c.loop-count.invariant.1
    (λ below. absurd (omega arith))
