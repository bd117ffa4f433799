use Rattle.std.proofs.Common.{sym, ◌∙◌, arith, length, below_more}
use Rattle.mx_any.specs.Machines.{meaning}
use Rattle.mx_touched.specs.Pairs.{is_compared}
use Rattle.mx_touched.proofs.Tests.{any-below, any-some}
use Rattle.mx_twin.proofs.harts.any_compared.Goals as goal

pub returns-then-is_compared : goal.returns-then-is_compared
returns-then-is_compared c =
    let here = c.loop-hart-test.true in
    let all = c.harts-hart-end.ensures in
    sym (any-some (is_compared c.args.domain (meaning c.args.a.now) (meaning c.args.b.now)) 0 (length (meaning c.args.a.now).core.harts)
    c.loop-hart.hart
    (omega arith) (omega (arith, here, all)) (sym c.is_compared.ensures ∙ c.if-is_compared.true))

pub loop-hart-preserved : goal.loop-hart-preserved
loop-hart-preserved c = below_more _ _ c.loop-hart.invariant (sym c.is_compared.ensures ∙ c.if-is_compared.false)

pub returns : goal.returns
returns c =
    let end = c.loop-hart-test.false in
    let all = c.harts-hart-end.ensures in
    sym (any-below (is_compared c.args.domain (meaning c.args.a.now) (meaning c.args.b.now)) 0 (length (meaning c.args.a.now).core.harts)
    (λ i l m. c.loop-hart.invariant i (omega (arith, m, end, all))))
