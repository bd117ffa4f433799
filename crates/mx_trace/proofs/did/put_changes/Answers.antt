use Rattle.std.proofs.Common.{◌≡◌, ◌+◌, ◌-◌, ◌≤◌, ◌++◌, arith}
use Rattle.mx_trace.proofs.DidLaws.{rest_none, rest_more, rest_all, rest_text}
use Rattle.mx_trace.proofs.did.put_changes.Goals as goal

pub loop-i-init : goal.loop-i-init
loop-i-init g c = record {
  within = omega arith;
  fours = omega arith;
  text = rest_none c.args.before.now c.args.after.now _;
  few =
      omega arith;
}

pub loop-i-preserved : goal.loop-i-preserved
loop-i-preserved g c =
    let before = c.args.before.now in
    let after = c.args.after.now in
    let old = c.args.line.now in
    let i = c.loop-i.i in
    let four : 4 ≤ i = omega (arith, c.loop-i-test.true, c.loop-i.invariant.fours) in
    let third = rest_more before after i (i - 4 + 3) old (omega (arith, four)) c.loop-i.invariant.within c.loop-i.invariant.text
    c.put_change.ensures.text in
    let second = rest_more before after (i - 4 + 3) (i - 4 + 2) old (omega (arith, four)) (omega (arith, c.loop-i.invariant.within)) third
    c.put_change-in-loop-i.ensures.text in
    let first = rest_more before after (i - 4 + 2) (i - 4 + 1) old (omega (arith, four)) (omega (arith, c.loop-i.invariant.within)) second
    c.put_change-in-loop-i-2.ensures.text in
    record {
      within = omega arith;
      fours = omega (arith, four, c.loop-i.invariant.fours);
      text = rest_more before after (i - 4 + 1) (i - 4) old (omega (arith, four)) (omega (arith, c.loop-i.invariant.within)) first
          c.put_change-in-loop-i-3.ensures.text;
      few = omega arith;
    }

pub returns-clause-text : goal.returns-clause-text
returns-clause-text g c = rest_all c.args.before.now c.args.after.now c.loop-i.i c.args.line.now c.loop-i-test.false c.loop-i.invariant.text
