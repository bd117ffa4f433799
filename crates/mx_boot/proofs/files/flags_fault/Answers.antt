use Rattle.std.proofs.Common.{◌∙◌, ap, sym, Some, arith, length, ◌≤◌}
use Rattle.std.specs.List.{enumerate_from}
use Rattle.std.proofs.lemmas.List.FromFn.{length-enumerate_from}
use Rattle.mx_boot.specs.Seen.{seen}
use Rattle.mx_boot.specs.Faults.{flags_rows, fault}
use Rattle.mx_boot.proofs.Rows.{at_counted, first_here, first_next, first_end, one_applies, one_fails}
use Rattle.mx_boot.proofs.files.flags_fault.Goals as goal

pub returns-then-is_refused : goal.returns-then-is_refused
returns-then-is_refused c =
    let h = seen c.args.home in
    let at = at_counted c.args.segments.now c.loop-k.k c.get.result c.get.ensures in
    let some = one_applies _ _ (sym c.is_refused.ensures ∙ c.if-is_refused.true) in
    let told = c.fault.ensures ∙ ap (λ p. fault 11 p c.loop-k.k) c.at_module.ensures in
    ap Some told ∙ sym (sym c.loop-k.invariant ∙ first_here (flags_rows h) (enumerate_from 0 c.args.segments.now) c.loop-k.k
    (c.loop-k.k, c.get.result) _ at some)

pub loop-k-preserved : goal.loop-k-preserved
loop-k-preserved c =
    let at = at_counted c.args.segments.now c.loop-k.k c.get.result c.get.ensures in
    first_next (flags_rows (seen c.args.home)) (enumerate_from 0 c.args.segments.now) c.loop-k.k (c.loop-k.k, c.get.result) at
    (one_fails _ _ (sym c.is_refused.ensures ∙ c.if-is_refused.false))
    ∙ c.loop-k.invariant

pub returns : goal.returns
returns c =
    let past : length (enumerate_from 0 c.args.segments.now) ≤ c.loop-k.k =
    omega (arith, length-enumerate_from 0 c.args.segments.now, c.len-k-end.ensures.value) in
    sym (sym c.loop-k.invariant ∙ first_end (flags_rows (seen c.args.home)) (enumerate_from 0 c.args.segments.now) c.loop-k.k past)
