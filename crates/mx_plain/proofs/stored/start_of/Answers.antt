use Rattle.std.proofs.Common.{◌≡◌, ◌+◌, ◌-◌, take, sum_by, sym, ap, ◌∙◌, arith}
use Rattle.mx_plain.specs.LineRuns.{run_length, runs_in}
use Rattle.mx_plain.proofs.StoredWords.{no_start, words_before, words_more, words_most, start_at, start_small}
use Rattle.mx_plain.proofs.stored.start_of.Goals as goal

pub returns-then-runs-i-ge16-clause-start : goal.returns-then-runs-i-ge16-clause-start
returns-then-runs-i-ge16-clause-start c = no_start c.args.runs.now c.args.i c.requires.line.whole c.if-runs-i-ge16.true

pub loop-place-init : goal.loop-place-init
loop-place-init c =
    let rs = c.args.runs.now in
    let none : rs.from - rs.from ≡ 0 = omega arith in
    sym (ap (λ n. sum_by run_length (take n (runs_in rs))) none)

pub overflow_add-start : goal.overflow_add-start
overflow_add-start c =
    let most = words_most c.args.runs.now c.loop-place.place c.requires.line c.loop-place.auto.place (omega arith) in
    omega (arith, most, c.loop-place.invariant)

pub loop-place-preserved : goal.loop-place-preserved
loop-place-preserved c =
    let more = words_more c.args.runs.now c.loop-place.place c.requires.line c.loop-place.auto.place (omega arith) in
    omega (arith, more, c.loop-place.invariant)

pub returns-clause-start : goal.returns-clause-start
returns-clause-start c =
    let rs = c.args.runs.now in
    let last : c.loop-place.place ≡ rs.from + c.args.i = omega arith in
    c.loop-place.invariant ∙ ap (words_before rs) last ∙ start_at rs c.args.i c.requires.line (omega arith)

pub returns-clause-small : goal.returns-clause-small
returns-clause-small c =
    let rs = c.args.runs.now in
    let last : c.loop-place.place ≡ rs.from + c.args.i = omega arith in
    let is = c.loop-place.invariant ∙ ap (words_before rs) last in
    let small = start_small rs c.args.i c.requires.line (omega arith) in
    omega (arith, is, small)
