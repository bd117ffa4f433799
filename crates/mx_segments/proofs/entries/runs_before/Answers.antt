use Rattle.std.proofs.Common.{◌+◌, ◌-◌, ◌/◌, ◌≤◌, arith}
use Rattle.mx_segments.proofs.SoundLaws.{few_before, passed, failed}
use Rattle.mx_segments.proofs.entries.runs_before.Goals as goal

pub loop-low-init : goal.loop-low-init
loop-low-init c =
    let le : c.min-before.result ≤ c.args.words = omega (arith, c.min-before.ensures) in
    let held = few_before c.args.words c.args.leaf.now c.args.chains.now.lists c.args.row c.requires.sound c.min-before.result le in
    record { from = omega arith; to = omega (arith, held, c.len_at-high.ensures.len); within = omega (arith, c.len_at-high.ensures.len) }

pub loop-low-preserved-then-is_before : goal.loop-low-preserved-then-is_before
loop-low-preserved-then-is_before c =
    let le : c.min-before.result ≤ c.args.words = omega (arith, c.min-before.ensures) in
    let within = c.loop-low.invariant.within in
    let h = passed c.args.words c.args.leaf.now c.args.chains.now.lists c.args.row c.requires.sound c.min-before.result
    (c.loop-low.low + (c.loop-low.high - c.loop-low.low) / 2) c.word.result c.is_before.result le (omega (arith, c.loop-low-test.true))
    c.word.ensures c.is_before.ensures c.if-is_before.true in
    record { from = omega (arith, h); to = c.loop-low.invariant.to; within = within }

pub loop-low-preserved : goal.loop-low-preserved
loop-low-preserved c =
    let le : c.min-before.result ≤ c.args.words = omega (arith, c.min-before.ensures) in
    let within = c.loop-low.invariant.within in
    let h = failed c.args.words c.args.leaf.now c.args.chains.now.lists c.args.row c.requires.sound c.min-before.result
    (c.loop-low.low + (c.loop-low.high - c.loop-low.low) / 2) c.word.result c.is_before.result le c.word.ensures c.is_before.ensures
    c.if-is_before.false in
    record { from = c.loop-low.invariant.from; to = h; within = omega (arith, c.loop-low-test.true) }
