use Rattle.std.proofs.Common.{◌≡◌, drop, length-drop, ◌∙◌, ap, arith}
use Rattle.std.proofs.lemmas.Bool.{cases_lt}
use Rattle.mx_words.specs.Rights.{same}
use Rattle.mx_words.specs.Runs.{runs_of}
use Rattle.mx_plain.specs.LineRuns.{runs_in}
use Rattle.mx_plain.proofs.StoredWords.{place_left, count_small, in_line}
use Rattle.mx_plain.proofs.stored.line_runs.Goals as goal

pub with_word-runs-requires-clause-some : goal.with_word-runs-requires-clause-some
with_word-runs-requires-clause-some c =
    place_left c.loop-place.runs (drop c.loop-place.place c.args.line.now) c.loop-place.invariant.3 c.loop-place.invariant.0
    (omega (arith, length-drop c.loop-place.place c.args.line.now, c.told-line))

pub with_word-runs-requires-clause-short : goal.with_word-runs-requires-clause-short
with_word-runs-requires-clause-short c =
    count_small c.loop-place.runs (drop c.loop-place.place c.args.line.now) c.loop-place.invariant.3 c.loop-place.invariant.0
    (omega (arith, length-drop c.loop-place.place c.args.line.now, c.told-line)) (cases_lt c.loop-place.runs.from 16)

pub returns-clause-line : goal.returns-clause-line
returns-clause-line c =
    let first : c.loop-place.place ≡ 0 = omega arith in
    let are : runs_in c.loop-place.runs ≡ runs_of same c.args.line.now = c.loop-place.invariant.0
    ∙ ap (λ n. runs_of same (drop n c.args.line.now)) first in
    in_line c.loop-place.runs c.args.line.now c.loop-place.invariant.3 are c.loop-place.invariant.1 c.told-line
