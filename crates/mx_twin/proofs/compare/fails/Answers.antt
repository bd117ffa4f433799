use Rattle.std.proofs.Common.{◌&&◌, not, sym, ◌∙◌, arith, length, below_more}
use Rattle.mx_any.specs.Machines.{meaning}
use Rattle.mx_touched.specs.Pairs.{flat_agrees, is_compared}
use Rattle.mx_touched.proofs.Tests.{any-below, any-some}
use Rattle.mx_twin.proofs.compare.fails.Goals as goal

pub returns-then-differs : goal.returns-then-differs
returns-then-differs c =
    let here = c.loop-hart-test.true in
    let all = c.harts-hart-end.ensures in
    sym (any-some (λ h. is_compared c.args.domain (meaning c.args.a.now) (meaning c.args.b.now) h
    && not (flat_agrees (meaning c.args.a.now) (meaning c.args.b.now) h)) 0 (length (meaning c.args.a.now).core.harts) c.loop-hart.hart
    (omega arith) (omega (arith, here, all)) (sym c.differs.ensures ∙ c.if-differs.true))

pub loop-hart-preserved : goal.loop-hart-preserved
loop-hart-preserved c = below_more _ _ c.loop-hart.invariant (sym c.differs.ensures ∙ c.if-differs.false)

pub returns : goal.returns
returns c =
    let end = c.loop-hart-test.false in
    let all = c.harts-hart-end.ensures in
    sym (any-below (λ h. is_compared c.args.domain (meaning c.args.a.now) (meaning c.args.b.now) h
    && not (flat_agrees (meaning c.args.a.now) (meaning c.args.b.now) h)) 0 (length (meaning c.args.a.now).core.harts)
    (λ i l m. c.loop-hart.invariant i (omega (arith, m, end, all))))
