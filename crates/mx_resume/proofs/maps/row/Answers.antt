use Rattle.std.proofs.Common.{◌≡◌, ◌+◌, ℕ, List, [], ◌∷◌, ◌++◌, length, ap, ◌∙◌, sym, arith, length-append}
use Rattle.mx_words.specs.declared.perm.Span.{Span}
use Rattle.mx_snapshot.specs.Resuming.{spans_in}
use Rattle.mx_snapshot.specs.Rules.{run_words}
use Rattle.mx_snapshot.proofs.ValidRuns.{spans-more}
use Rattle.mx_resume.specs.Parts.{run_seen}
use Rattle.mx_resume.proofs.Lists.{left_next}
use Rattle.mx_resume.proofs.Places.{count_more, fills_inside, spans_one, value_more}
use Rattle.mx_resume.proofs.maps.row.Goals as goal
use Rattle.mx_snapshot.proofs.CodecBounds.{run_words_more as words_more}

pub runs-preserved : goal.runs-preserved
runs-preserved c =
    let inv = c.runs.invariant in
    let before = inv.0 in
    let words = inv.2 in
    let run = run_seen c.in_ok-run.run' in
    let fits = fills_inside c.args.head.now.words c.args.runs c.runs.read c.runs.words c.in_ok-run.run'.count c.in_ok-run.ensures.place in
    let more = c.in_ok-add_span.ensures.row in
    let here : c.runs.words ≡ 0 + run_words before = omega (arith, words) in
    let one = spans_one c.runs.words run in
    let count : length c.add_span.new.row ≡ length c.runs.row + length (spans_in c.runs.words (run ∷ [])) = ap length more
    ∙ length-append c.runs.row (spans_in c.runs.words (run ∷ [])) in (
      before ++ run ∷ [],
      count_more before run ∙ ap (λ (k : ℕ). k + 1) inv.1,
      words_more before run ∙ ap (λ (k : ℕ). k + run.count) words,
      fits.1,
      omega (arith, count, inv.4, one, fits.0),
      value_more before run,
      more ∙ ap (λ (s : List Span). s ++ spans_in c.runs.words (run ∷ [])) inv.6
          ∙ ap (λ (k : ℕ). spans_in 0 before ++ spans_in k (run ∷ [])) here ∙ sym (spans-more 0 before run),
      left_next c.runs-test.true inv.7 (c.in_ok-run.ensures.taken before (record { read = inv.1; words = words }) inv.5),
    )
