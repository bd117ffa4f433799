use Rattle.std.proofs.Common.{sym, ◌∙◌, arith}
use Rattle.mx_any.specs.Machines.{meaning}
use Rattle.mx_twin.proofs.SeenRuns.{run-seen, run-unlike}
use Rattle.mx_twin.proofs.words.seen_run.Goals as goal

pub returns-then-same_run : goal.returns-then-same_run
returns-then-same_run c =
    let f = meaning c.args.a.now in
    let g = meaning c.args.b.now in
    let one = c.run_at-one.ensures in
    let other = c.run_at-other.ensures in
    let near = c.lesser.ensures in
    let next = c.lesser-next.ensures in
    let more = next.more c.args.at c.requires.some (near.more c.args.at one.more other.more) in
    let to = next.second in
    let first = near.first in
    let second = near.second in (
      more,
      next.first,
      run-seen f g c.args.domain c.args.at c.run_at-one.result.1 c.run_at-other.result.1 c.run_at-one.result.0 c.run_at-other.result.0
          one.more other.more one.alike other.alike c.lesser-next.result more (omega (arith, to, first)) (omega (arith, to, second))
          (sym c.same_run.ensures ∙ c.if-same_run.true),
    )

pub returns-else-same_run : goal.returns-else-same_run
returns-else-same_run c =
    let f = meaning c.args.a.now in
    let g = meaning c.args.b.now in
    let one = c.run_at-one.ensures in
    let other = c.run_at-other.ensures in
    let near = c.lesser.ensures in
    let next = c.lesser-next.ensures in
    let more = next.more c.args.at c.requires.some (near.more c.args.at one.more other.more) in
    let to = next.second in
    let first = near.first in
    let second = near.second in
    run-unlike f g c.args.domain c.args.at c.run_at-one.result.1 c.run_at-other.result.1 c.run_at-one.result.0 c.run_at-other.result.0
    one.more other.more one.alike other.alike c.lesser-next.result more (omega (arith, to, first)) (omega (arith, to, second)) c.args.end
    next.first
    (sym c.same_run.ensures ∙ c.if-same_run.false)
