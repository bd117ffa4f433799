use Rattle.std.proofs.Common.{sym, ◌∙◌, arith}
use Rattle.mx_words.proofs.RangeTests.{all_pass}
use Rattle.mx_any.specs.Machines.{meaning}
use Rattle.mx_laws.specs.Comparison.{same_target}
use Rattle.mx_twin.proofs.SeenRuns.{all-missed}
use Rattle.mx_twin.proofs.gates.same_targets.Goals as goal

pub returns-then-not-same_target : goal.returns-then-not-same_target
returns-then-not-same_target c =
    let here = c.loop-word-test.true in
    let low = c.loop-word.auto.word in
    sym (all-missed (same_target (meaning c.args.a.now).core (meaning c.args.b.now).core c.args.domain) c.args.first c.args.count
    c.loop-word.word
    low here (sym c.same_target.ensures ∙ c.if-not-same_target.true))

pub returns : goal.returns
returns c =
    let end = c.loop-word-test.false in
    sym (all_pass (same_target (meaning c.args.a.now).core (meaning c.args.b.now).core c.args.domain) c.args.first c.args.count
    (λ k l h. c.loop-word.invariant k l (omega (arith, h, end))))
